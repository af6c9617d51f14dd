use Rattle.std.proofs.Common.{◌≡◌, ◌∷◌, take, vec_items, vec_capacity, filter}
use Rattle.cutting.specs.Cutting.{begins_inside, opening, in_force}
use Rattle.cutting.proofs.filling.put_cut.Given as goal

abbrev pub invariant-loop-row : goal.invariant-loop-row
invariant-loop-row l = (vec_items l.out ≡ opening l.to.start (in_force l.rows l.to.start) ∷ filter (begins_inside l.to) (take l.row-index l.rows)) × (vec_capacity l.out ≡ vec_capacity l.initial.out)
