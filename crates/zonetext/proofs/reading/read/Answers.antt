use Rattle.std.proofs.Common.{◌≡◌, rules}
use Rattle.zone.specs.Refusals.{answered}
use Rattle.zone.proofs.Testing.{on_ok}
use Rattle.zonetext.specs.Reading.{state_of, zone_read, reading}
use Rattle.zonetext.proofs.Back.{one_text}
use Rattle.zonetext.proofs.Telling.{refused_says, read_some, read_sound, read_filled}
use Rattle.zonetext.proofs.reading.read.Goals as goal

pub returns-in_err-reader-clause-says : goal.returns-in_err-reader-clause-says
returns-in_err-reader-clause-says c = refused_says c.from_residual.result c.args.text.now c.args.window.now c.from_residual.ensures.0 (search rules)

pub returns-in_err-reader-clause-one_text : goal.returns-in_err-reader-clause-one_text
returns-in_err-reader-clause-one_text c = one_text

pub interval-requires : goal.interval-requires
interval-requires c = read_some c.in_ok-reader.reader c.args.text.now (search rules)

pub unwrap-requires : goal.unwrap-requires
unwrap-requires c = c.fill.ensures.told.1 (read_sound c.in_ok-reader.reader c.args.text.now _ _ (search rules) c.interval.ensures c.deref.ensures.0)

pub returns : goal.returns
returns c =
    let h : answered (zone_read (state_of c.in_ok-reader.reader)) ≡ reading c.args.text.now = search rules in
    let f = on_ok c.fill.result c.fill.ensures.filled (c.fill.ensures.told.1 (read_sound c.in_ok-reader.reader c.args.text.now _ _ h c.interval.ensures c.deref.ensures.0)) in
    let q = read_filled c.in_ok-reader.reader c.args.text.now c.from_text.result c.fill.new.self _ _ h c.from_text.ensures c.interval.ensures c.deref.ensures.0 f in
    record { is = q.0; refused = tt; says = q.1; one_text = one_text }
