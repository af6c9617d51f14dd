-- Intervals, compared. Assumes nothing.
use Rattle.std.proofs.Common.{◌≡◌, ◌&&◌, ℤ, int_eq, int_le, arith}
use Rattle.std.proofs.lemmas.Int.{ints}

-- two numbers are the same where each is at most the other
pub same_int : (a b : ℤ) → (int_le a b && int_le b a) ≡ int_eq a b
same_int a b = grind (arith, ints)
