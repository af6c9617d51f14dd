use Rattle.std.proofs.Common.{◌<◌, length}
use Rattle.zone.specs.Rows.{at}
use Rattle.cutting.proofs.Seen.{Seen}
use Rattle.cutting.proofs.look.place_in_force.Given as goal

abbrev pub invariant-loop-i : goal.invariant-loop-i
invariant-loop-i l = (l.place < length l.rows) × Seen l.rows l.at.0 (at l.rows l.place) l.i
