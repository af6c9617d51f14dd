use Rattle.std.proofs.Common.{◌≡◌, length, drop}
use Rattle.zone.specs.Comparing.{same_rows}
use Rattle.zone.proofs.comparing.same_rows.Given as goal

-- as far as the rows are the same, the lists are if those that are left are
abbrev pub invariant-loop-x : goal.invariant-loop-x
invariant-loop-x l = same_rows (drop (length l.yielded) l.a) (drop (length l.yielded) l.b) ≡ same_rows l.a l.b
