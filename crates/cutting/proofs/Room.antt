-- The room that is left while a filter keeps rows. Assumes nothing.
use Rattle.std.proofs.Common.{◌≡◌, ℕ, ◌+◌, ◌<◌, ◌≤◌, Bool, true, cond, List, length, get_or, take, count_by, filter, arith}
use Rattle.std.proofs.lemmas.List.Sums.{count_by_more_yes, length-filter, sum_by-take-le}

-- before a row that is kept there is room for one more
pub room_left : {X : Type 0} (p : X → Bool) (xs : List X) (i : ℕ) (d : X) → i < length xs → p (get_or xs i d) ≡ true → length (filter p (take i xs)) + 1 ≤ count_by p xs
room_left p xs i d l h = omega (arith, length-filter p (take i xs), count_by_more_yes p xs i d l h, sum_by-take-le (λ x. cond (p x) 1 0) xs (i + 1))
