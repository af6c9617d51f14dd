use Rattle.std.proofs.Common.{rules, sym}
use Rattle.zonetext.proofs.Closing.{comes_next}
use Rattle.zonetext.proofs.places.Reader.has_place_for.Goals as goal

pub returns-then-is_inside : goal.returns-then-is_inside
returns-then-is_inside c =
    let self = c.args.self.now in
    comes_next self.until self.rows.items c.last.result c.args.row c.is_none_or.result (search rules) (sym c.if-is_inside.ensures) (search rules)
