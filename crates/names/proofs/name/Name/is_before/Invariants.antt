use Rattle.std.proofs.Common.{◌≡◌, length, drop}
use Rattle.names.specs.Comparing.{before}
use Rattle.names.proofs.name.Name.is_before.Given as goal

-- as far as the names agree, the order is that of the bytes that are left
abbrev pub invariant-loop-a : goal.invariant-loop-a
invariant-loop-a l = before (drop (length l.yielded) l.self.bytes) (drop (length l.yielded) l.other.bytes) ≡ before l.self.bytes l.other.bytes
