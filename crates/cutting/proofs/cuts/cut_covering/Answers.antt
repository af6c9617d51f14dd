use Rattle.std.proofs.Common.{◌≤◌, List, length, vec_items, sym, ap, subst, arith}
use Rattle.std.proofs.lemmas.Bool.{leb-true}
use Rattle.zone.specs.declared.rows.Row.{Row}
use Rattle.zone.specs.Intervals.{era}
use Rattle.zone.specs.Rows.{Covers}
use Rattle.cutting.specs.Cutting.{cut}
use Rattle.cutting.proofs.Clipping.{cuts_agree, within_trans}
use Rattle.cutting.proofs.cuts.cut_covering.Goals as goal

pub invariant_of-place : goal.invariant_of-place
invariant_of-place c =
    let rows = c.args.rows.now in
    let w = sym c.if-not-is_within.ensures in
    let q = c.put_cut.ensures.items in
    let v : Covers c.args.to (vec_items c.put_cut.new.out) = subst (λ (x : List Row). Covers c.args.to x) (sym q) (cuts_agree c.args.of rows c.args.to c.requires.covers w).covers in
    let n : length (vec_items c.put_cut.new.out) ≤ 64 = omega (arith, ap length q, leb-true (length (cut rows c.args.to)) 64 (sym c.if-not-is_cut_small.ensures)) in
    record { era = within_trans c.args.to c.args.of era w c.requires.era; begins = v.begins; joined = v.joined; ends = v.ends; small = v.small; few = n; room = omega (arith, c.put_cut.ensures.capacity, c.args.place.now.room) }
