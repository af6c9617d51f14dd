use Rattle.std.proofs.Common.{length, sym, ap, arith}
use Rattle.std.proofs.lemmas.List.Sums.{length-filter}
use Rattle.zone.specs.Rows.{no_row}
use Rattle.cutting.specs.Cutting.{begins_inside}
use Rattle.cutting.proofs.Room.{room_left}
use Rattle.cutting.proofs.filling.put_cut.Goals as goal

pub push_reserved-requires-then-does_begin_inside : goal.push_reserved-requires-then-does_begin_inside
push_reserved-requires-then-does_begin_inside c =
    let r = room_left (begins_inside c.args.to) c.args.rows.now c.loop-row.row-index no_row c.loop-row-test.true (sym c.if-does_begin_inside.ensures) in
    omega (arith, r, ap length c.loop-row.invariant.0, length-filter (begins_inside c.args.to) c.args.rows.now, c.loop-row.invariant.1, c.push_reserved.ensures.capacity, c.clear.ensures.capacity)
