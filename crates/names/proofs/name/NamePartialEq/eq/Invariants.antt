use Rattle.std.proofs.Common.{◌≡◌, ℕ, ◌<◌, length, slice_index}
use Rattle.names.proofs.name.NamePartialEq.eq.Given as goal

abbrev pub invariant-loop-a : goal.invariant-loop-a
invariant-loop-a l = (k : ℕ) → k < length l.yielded → slice_index l.self.bytes k ≡ slice_index l.other.bytes k
