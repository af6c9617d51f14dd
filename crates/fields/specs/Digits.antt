-- Two digits in a text, and the reading of a text by a guess that is checked.
use Rattle.std.specs.Prelude.{◌≡◌, ℕ, ◌+◌, ◌-◌, ◌*◌, ◌/◌, ◌%◌, ◌<◌, Bool, if◌then◌else◌, ◌&&◌, List, [], ◌∷◌, Some, None, Option, slice_index}
use Rattle.std.specs.Str.{bytes_eq}

-- the two digits of a number below 100
abbrev pub two : ℕ → List ℕ
two n = (48 + n / 10) ∷ (48 + n % 10) ∷ []

-- the bytes a and b are the two digits of n, which is below the limit
pub record TwoSay (a b limit n : ℕ) : Type 0 where
  pub below : n < limit
  pub tens : a ≡ 48 + n / 10
  pub ones : b ≡ 48 + n % 10

-- the number below the limit whose digits are a and b: none exactly if there is none
abbrev pub TwoRead : ℕ → ℕ → ℕ → Option ℕ → Type 0
TwoRead a b limit None = (n : ℕ) → TwoSay a b limit n → ⊥
TwoRead a b limit (Some n) = TwoSay a b limit n

-- the number that the two digits at i say, if they are digits
abbrev pub number_at : List ℕ → ℕ → ℕ
number_at t i = (slice_index t i - 48) * 10 + (slice_index t (i + 1) - 48)

-- the value that is guessed from a text, if it is allowed and the text is its print
abbrev pub checked : {X : Type 0} → (X → Bool) → (X → List ℕ) → (List ℕ → X) → List ℕ → Option X
checked allowed print guess t = if allowed (guess t) && bytes_eq t (print (guess t)) then Some (guess t) else None
