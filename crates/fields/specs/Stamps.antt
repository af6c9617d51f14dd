-- The text of a date with a time, and the date with a time that a text says.
use Rattle.std.specs.Prelude.{◌≡◌, ℕ, ◌+◌, ◌*◌, ◌/◌, ◌%◌, Bool, ◌&&◌, List, ◌∷◌, ◌++◌, length, Some, None, Option, nat_le, nat_lt, slice_index, slice_index_or}
use Rattle.calendar.specs.declared.dates.Stamp.{Stamp}
use Rattle.calendar.specs.Calendar.{Valid, month_days}
use Rattle.fields.specs.Digits.{two, number_at, checked, TwoSay}

-- the time of day: hours, minutes and seconds
abbrev pub time_text : Stamp → List ℕ
time_text d = two d.hour ++ (two d.minute ++ two d.second)

-- year, month and day, the letter T, and the time of day
unfoldable pub stamp_text : Stamp → List ℕ
stamp_text d = two (d.year / 100) ++ (two (d.year % 100) ++ (two d.month ++ (two d.day ++ 84 ∷ time_text d)))

-- the test for valid stamps
abbrev pub is_valid : Stamp → Bool
is_valid d = (nat_le 1899 d.year && nat_le d.year 2100) && ((nat_le 1 d.month && nat_le d.month 12) && ((nat_le 1 d.day && nat_le d.day (month_days d.year d.month)) && (nat_lt d.hour 24 && (nat_lt d.minute 60 && nat_lt d.second 60))))

-- the stamp that a text says, if it is the text of one
abbrev pub stamp_guess : List ℕ → Stamp
stamp_guess t = record { year = number_at t 0 * 100 + number_at t 2; month = number_at t 4; day = number_at t 6; hour = number_at t 9; minute = number_at t 11; second = number_at t 13 }

-- the valid stamp whose text this is
unfoldable pub stamp_read : List ℕ → Option Stamp
stamp_read t = checked is_valid stamp_text stamp_guess t

-- a text of this length with the letter T says the parts of a stamp by two digits each, the year by four
pub record DigitsSay (t : List ℕ) (d : Stamp) : Type 0 where
  pub size : length t ≡ 15
  pub letter : slice_index_or t 8 0 ≡ 84
  pub centuries : TwoSay (slice_index t 0) (slice_index t 1) 100 (d.year / 100)
  pub years : TwoSay (slice_index t 2) (slice_index t 3) 100 (d.year % 100)
  pub months : TwoSay (slice_index t 4) (slice_index t 5) 100 d.month
  pub days : TwoSay (slice_index t 6) (slice_index t 7) 100 d.day
  pub hours : TwoSay (slice_index t 9) (slice_index t 10) 100 d.hour
  pub minutes : TwoSay (slice_index t 11) (slice_index t 12) 100 d.minute
  pub seconds : TwoSay (slice_index t 13) (slice_index t 14) 100 d.second

-- the stamp, perhaps no valid one, that a text says: none exactly if there is none
abbrev pub DigitsRead : List ℕ → Option Stamp → Type 0
DigitsRead t None = (d : Stamp) → DigitsSay t d → ⊥
DigitsRead t (Some d) = DigitsSay t d

-- a valid stamp is printed
pub record StampPrintedAs (d : Stamp) (t : List ℕ) : Type 0 where
  pub valid : Valid d
  pub text : t ≡ stamp_text d

-- the print of a stamp: none exactly if it is not valid
abbrev pub StampPrinted : Stamp → Option (List ℕ) → Type 0
StampPrinted d None = Valid d → ⊥
StampPrinted d (Some t) = StampPrintedAs d t
