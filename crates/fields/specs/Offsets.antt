-- The text of an offset from UTC, and the offset that a text says.
use Rattle.std.specs.Prelude.{◌≡◌, ℕ, ◌+◌, ◌-◌, ◌*◌, ◌/◌, ◌%◌, ◌<◌, Bool, if◌then◌else◌, ◌⊎◌, List, [], ◌∷◌, ◌++◌, length, take, drop, replicate, ℤ, pos, negsuc, neg_ℤ, Some, None, Option, ◌==◌, ◌≢◌, nat_lt, slice_index, unsigned_abs}
use Rattle.fields.specs.declared.types.Offset.{Offset}
use Rattle.fields.specs.declared.types.OffsetText.{OffsetText}
use Rattle.fields.specs.Digits.{two, number_at, checked, TwoSay}

-- an offset by its seconds
abbrev pub offset : ℤ → Offset
offset n = record { 0 = n }

-- '+', or '-' below zero
abbrev pub sign : ℤ → ℕ
sign (pos n) = 43
sign (negsuc n) = 45

-- less than a day: from -86399 to 86399 seconds
abbrev pub InDay : Offset → Type 0
InDay z = unsigned_abs z.0 < 86400

-- the test of it
abbrev pub in_day : Offset → Bool
in_day z = nat_lt (unsigned_abs z.0) 86400

-- the seconds, which stand only where they are not 00
abbrev pub seconds_part : ℕ → List ℕ
seconds_part s = if s == 0 then [] else two s

-- hours, minutes and perhaps seconds
abbrev pub clock_text : ℕ → List ℕ
clock_text n = two (n / 3600) ++ (two (n / 60 % 60) ++ seconds_part (n % 60))

-- the text of an offset in range: its sign and its size
unfoldable pub printed : Offset → List ℕ
printed z = sign z.0 ∷ clock_text (unsigned_abs z.0)

-- the seconds that the digits after the sign say
abbrev pub clock : List ℕ → ℕ
clock t = number_at t 1 * 3600 + number_at t 3 * 60 + (if length t == 5 then 0 else number_at t 5)

-- the offset that a text says, if it is the text of one
abbrev pub offset_guess : List ℕ → Offset
offset_guess t = offset (if slice_index t 0 == 43 then pos (clock t) else neg_ℤ (pos (clock t)))

-- the offset whose text this is
unfoldable pub parsed : List ℕ → Option Offset
parsed t = checked in_day printed offset_guess t

-- a text of five bytes has no seconds; one of seven has them, and they are not 00
abbrev pub SecondsSay : List ℕ → ℕ → Type 0
SecondsSay t s = ((length t ≡ 5) × (s ≡ 0)) ⊎ ((length t ≡ 7) × (s ≢ 0) × TwoSay (slice_index t 5) (slice_index t 6) 60 s)

-- the digits after the sign say a size below a day
pub record ClockSays (t : List ℕ) (n : ℕ) : Type 0 where
  pub below : n < 86400
  pub hours : TwoSay (slice_index t 1) (slice_index t 2) 24 (n / 3600)
  pub minutes : TwoSay (slice_index t 3) (slice_index t 4) 60 (n / 60 % 60)
  pub seconds : SecondsSay t (n % 60)

-- the size that a text says after its sign: none exactly if there is none
abbrev pub ClockRead : List ℕ → Option ℕ → Type 0
ClockRead t None = (n : ℕ) → ClockSays t n → ⊥
ClockRead t (Some n) = ClockSays t n

-- an offset has this sign and this size
pub record SignSays (b n : ℕ) (z : Offset) : Type 0 where
  pub size : unsigned_abs z.0 ≡ n
  pub sign_byte : sign z.0 ≡ b

-- the offset with a sign and a size: none exactly if there is none
abbrev pub Signed : ℕ → ℕ → Option Offset → Type 0
Signed b n None = (z : Offset) → SignSays b n z → ⊥
Signed b n (Some z) = SignSays b n z

-- an offset in range is printed: its text stands first, and after it zero digits
pub record PrintedAs (z : Offset) (t : OffsetText) : Type 0 where
  pub range : InDay z
  pub len : t.len ≡ length (printed z)
  pub text : take t.len t.bytes ≡ printed z
  pub rest : drop t.len t.bytes ≡ replicate (7 - t.len) 48

-- the print of an offset: none exactly if it is a day or more
abbrev pub Printed : Offset → Option OffsetText → Type 0
Printed z None = InDay z → ⊥
Printed z (Some t) = PrintedAs z t
