-- Gregorian dates in the years 1899 to 2100, and the seconds from the start of 1970 to them.
use Rattle.std.specs.Prelude.{◌≡◌, ℕ, zero, suc, ◌+◌, ◌-◌, ◌*◌, ◌%◌, ◌<◌, ◌≤◌, Bool, if◌then◌else◌, not, ◌&&◌, ◌||◌, [], ◌∷◌, ℤ, pos, negsuc, ◌-ℤ◌, ◌≤ℤ◌, ◌<ℤ◌, Ok, Err, Result, ◌==◌, slice_index}
use Rattle.calendar.specs.declared.dates.Stamp.{Stamp}
use Rattle.calendar.specs.declared.dates.Seconds.{Seconds}
use Rattle.calendar.specs.declared.dates.InvalidStamp.{InvalidStamp}
use Rattle.calendar.specs.declared.dates.AnotherYear.{AnotherYear}

-- whether the year has a 29 February
abbrev pub leap : ℕ → Bool
leap y = y % 4 == 0 && (not (y % 100 == 0) || y % 400 == 0)

-- the days of the year
abbrev pub year_days : ℕ → ℕ
year_days y = if leap y then 366 else 365

-- the days of the month m of the year y: January is 1
abbrev pub month_days : ℕ → ℕ → ℕ
month_days y m = slice_index (0 ∷ 31 ∷ (if leap y then 29 else 28) ∷ 31 ∷ 30 ∷ 31 ∷ 30 ∷ 31 ∷ 31 ∷ 30 ∷ 31 ∷ 30 ∷ 31 ∷ []) m

-- the sum f 0 + f 1 + .. of the first n values
abbrev pub sum_below : (ℕ → ℕ) → ℕ → ℕ
sum_below f zero = 0
sum_below f (suc n) = sum_below f n + f n

-- the sum f a + f (a + 1) + .. up to, not including, f b
abbrev pub sum_between : (ℕ → ℕ) → ℕ → ℕ → ℕ
sum_between f a b = sum_below (λ k. f (a + k)) (b - a)

-- the days from 1 January 1899 to 1 January of the year y
abbrev pub days_before_year : ℕ → ℕ
days_before_year y = sum_between year_days 1899 y

-- the days from 1 January of the year y to the first of its month m
abbrev pub days_before_month : ℕ → ℕ → ℕ
days_before_month y m = sum_between (month_days y) 1 m

-- there is such a date and time of day, in the years 1899 to 2100
pub record Valid (d : Stamp) : Type 0 where
  pub first_year : 1899 ≤ d.year
  pub last_year : d.year ≤ 2100
  pub first_month : 1 ≤ d.month
  pub last_month : d.month ≤ 12
  pub first_day : 1 ≤ d.day
  pub last_day : d.day ≤ month_days d.year d.month
  pub last_hour : d.hour < 24
  pub last_minute : d.minute < 60
  pub last_second : d.second < 60

-- the days from 1 January 1899 to the date
abbrev pub day_number : Stamp → ℕ
day_number d = days_before_year d.year + days_before_month d.year d.month + (d.day - 1)

-- the seconds from midnight to the time of day
abbrev pub second_of_day : Stamp → ℕ
second_of_day d = d.hour * 3600 + d.minute * 60 + d.second

-- the seconds from the start of 1899
abbrev pub seconds_from_1899 : Stamp → ℕ
seconds_from_1899 d = day_number d * 86400 + second_of_day d

-- the seconds from the start of 1970, which is 25932 days after that of 1899
abbrev pub seconds : Stamp → ℤ
seconds d = pos (seconds_from_1899 d) -ℤ pos (25932 * 86400)

-- from 1899-01-01T00:00:00 up to, not including, 2101-01-01T00:00:00
pub record InRange (n : ℤ) : Type 0 where
  pub from_1899 : negsuc 2240524799 ≤ℤ n
  pub before_2101 : n <ℤ pos 4133980800

-- the stamp is valid and these are its seconds
pub record SecondsAre (d : Stamp) (n : Seconds) : Type 0 where
  pub valid : Valid d
  pub value : n.0 ≡ seconds d

-- the stamp at these seconds, which are in range: it is valid and has them
pub record StampIs (n : Seconds) (d : Stamp) : Type 0 where
  pub range : InRange n.0
  pub valid : Valid d
  pub value : seconds d ≡ n.0

-- the seconds of a stamp: an error exactly if it is not valid
abbrev pub SecondsFound : Stamp → Result Seconds InvalidStamp → Type 0
SecondsFound d (Err e) = Valid d → ⊥
SecondsFound d (Ok n) = SecondsAre d n

-- the stamp at some seconds: an error exactly if they are out of range
abbrev pub StampFound : Seconds → Result Stamp AnotherYear → Type 0
StampFound n (Err e) = InRange n.0 → ⊥
StampFound n (Ok d) = StampIs n d
