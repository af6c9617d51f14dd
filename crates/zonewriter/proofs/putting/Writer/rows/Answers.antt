-- Each row is put after those before it.
use Rattle.std.proofs.Common.{◌≤◌, length, refl, sym, ap, ◌∙◌, arith}
use Rattle.std.specs.List.{flat_map}
use Rattle.std.proofs.lemmas.List.{take_all}
use Rattle.std.proofs.lemmas.List.Folds.{length-flat_map-take}
use Rattle.zone.specs.Rows.{no_row}
use Rattle.zonetext.specs.Writing.{row_text}
use Rattle.zonewriter.proofs.Framing.{rows_more}
use Rattle.zonewriter.proofs.Placing.{puts_none, puts_more, puts_same}
use Rattle.zonewriter.proofs.putting.Writer.rows.Goals as goal

pub loop-row-init : goal.loop-row-init
loop-row-init c = (refl, puts_none _)

pub row-requires-clause-room : goal.row-requires-clause-room
row-requires-clause-room c =
    let fits = length-flat_map-take row_text c.args.rows.now c.loop-row.row-index no_row c.loop-row-test.true in
    omega (arith, fits, c.loop-row.invariant.1.len, c.loop-row.invariant.1.size)

pub loop-row-preserved : goal.loop-row-preserved
loop-row-preserved c =
    let more = rows_more c.args.rows.now c.loop-row.row-index no_row c.loop-row-test.true in
    let h : c.args.self.now.len ≤ length c.args.self.now.buffer.now = omega arith in
    (c.row.ensures.same_buffer ∙ c.loop-row.invariant.0, puts_same (sym more) (puts_more h c.loop-row.invariant.1 c.row.ensures.puts))

pub returns-clause-puts : goal.returns-clause-puts
returns-clause-puts c = puts_same (ap (flat_map row_text) (take_all c.loop-row.row-index c.args.rows.now c.loop-row-test.false)) c.loop-row.invariant.1
