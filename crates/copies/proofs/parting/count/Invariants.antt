use Rattle.std.proofs.Common.{◌≡◌, ◌≤◌, drop}
use Rattle.copies.specs.Heads.{counted_after, most_bytes}
use Rattle.copies.proofs.parting.count.Given as goal

-- the digits that are left go on the number
abbrev pub invariant-loop-i : goal.invariant-loop-i
invariant-loop-i l = (l.len ≤ most_bytes) × (counted_after l.len (drop l.i l.bytes) ≡ counted_after 0 l.bytes)
