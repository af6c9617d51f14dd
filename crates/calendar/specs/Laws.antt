-- The laws of the calendar, and worked examples.
use Rattle.std.specs.Prelude.{◌≡◌, ℕ, ℤ, pos, negsuc}
use Rattle.calendar.specs.declared.dates.Stamp.{Stamp}
use Rattle.calendar.specs.Calendar.{Valid, seconds, InRange}

-- valid stamps and the seconds in range correspond one to one
pub record CalendarLaws : Type 0 where
  pub inside : (d : Stamp) → Valid d → InRange (seconds d)
  pub one_stamp : (a b : Stamp) → Valid a → Valid b → seconds a ≡ seconds b → a ≡ b
  pub every_second : (n : ℤ) → InRange n → (d : Stamp) × Valid d × (seconds d ≡ n)

-- a date at an hour
abbrev pub at_hour : ℕ → ℕ → ℕ → ℕ → Stamp
at_hour y m d h = record { year = y; month = m; day = d; hour = h; minute = 0; second = 0 }

-- known dates and their seconds
pub record Worked : Type 0 where
  pub leap_day_valid : Valid (at_hour 2000 2 29 0)
  pub leap_day : seconds (at_hour 2000 2 29 0) ≡ pos 951782400
  pub no_leap_day : Valid (at_hour 1900 2 29 0) → ⊥
  pub start_1900 : seconds (at_hour 1900 1 1 0) ≡ negsuc 2208988799
  pub start_2100 : seconds (at_hour 2100 1 1 0) ≡ pos 4102444800
  pub spring_2024 : seconds (at_hour 2024 3 31 2) ≡ pos 1711850400
