-- The decimal numbers that a word spells. Assumes nothing.
use Rattle.std.specs.Prelude.{◌≡◌, ℕ, ◌+◌, ◌-◌, ◌*◌, ◌^◌, Bool, if◌then◌else◌, ◌&&◌, true, false, List, [], ◌∷◌, length, drop, ℤ, pos, neg_ℤ, Some, None, Option, Result, ◌==◌, nat_le, nat_lt, slice_index}
use Rattle.std.specs.Result.{result_ok}
use Rattle.std.specs.Str.{all_ascii_digits, IsUtf8}

-- the number that digits spell after those of n
abbrev pub value_after : ℕ → List ℕ → ℕ
value_after n [] = n
value_after n (d ∷ ds) = value_after (10 * n + (d - 48)) ds

-- the number that digits spell
abbrev pub value : List ℕ → ℕ
value ds = value_after 0 ds

-- one digit or more, and nothing else
abbrev pub numeral : List ℕ → Bool
numeral ds = nat_lt 0 (length ds) && all_ascii_digits ds

-- the word begins with a minus sign
abbrev pub minus : List ℕ → Bool
minus word = slice_index word 0 == 45

-- the word begins with a plus sign
abbrev pub plus : List ℕ → Bool
plus word = slice_index word 0 == 43

-- the number that a word spells, with so many bits besides the sign
abbrev pub number : ℕ → List ℕ → Option ℤ
number bits word =
    if minus word
    then (if numeral (drop 1 word) && nat_le (value (drop 1 word)) (2 ^ bits) then Some (neg_ℤ (pos (value (drop 1 word)))) else None)
    else (if numeral word && nat_lt (value word) (2 ^ bits) then Some (pos (value word)) else None)

-- the number that digits alone spell, where it is one of 64 bits
abbrev pub count : List ℕ → Option ℕ
count word = if numeral word && nat_lt (value word) (2 ^ 64) then Some (value word) else None

-- a word spells what its text parses to; one that is no text, or that begins with a plus sign, spells no number
pub record AsParsed {T E : Type 0} (parses : List ℕ → Result T E → Type 0) (spelled : List ℕ → Option T) : Type 0 where
  pub text : (word : List ℕ) (r : Result T E) → parses word r → plus word ≡ false → result_ok r ≡ spelled word
  pub no_text : (word : List ℕ) → ¬ (IsUtf8 word) → spelled word ≡ None
  pub signed : (word : List ℕ) → plus word ≡ true → spelled word ≡ None
