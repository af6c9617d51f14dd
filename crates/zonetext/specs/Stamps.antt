-- The stamp at some seconds, by counting years and months off. Assumes nothing.
use Rattle.std.specs.Prelude.{ℕ, zero, suc, ◌+◌, ◌-◌, ◌*◌, ◌/◌, ◌%◌, if◌then◌else◌, ℤ, pos, ◌+ℤ◌, nat_lt, unsigned_abs}
use Rattle.calendar.specs.declared.dates.Stamp.{Stamp}
use Rattle.calendar.specs.Calendar.{year_days, month_days}

-- takes f k, f (k + 1) and so on away from n, while n is not below them and at most m times: where that stops, and what is left
abbrev pub count_off : (ℕ → ℕ) → ℕ → ℕ → ℕ → ℕ × ℕ
count_off f zero k n = (k, n)
count_off f (suc m) k n = if nat_lt n (f k) then (k, n) else count_off f m (k + 1) (n - f k)

-- the year of a day, counted from the start of 1899, and the day in that year, counted from 0
abbrev pub year_of : ℕ → ℕ × ℕ
year_of day = count_off year_days 202 1899 day

-- the month of a day of the year y, and the day in that month, counted from 0
abbrev pub month_of : ℕ → ℕ → ℕ × ℕ
month_of y day = count_off (month_days y) 12 1 day

-- a stamp by its parts, the day counted from 0
abbrev pub stamp : ℕ → ℕ → ℕ → ℕ → Stamp
stamp y m d s = record { year = y; month = m; day = d + 1; hour = s / 3600; minute = s / 60 % 60; second = s % 60 }

-- the stamp at a day, counted from the start of 1899, and a second of that day
abbrev pub stamp_of_day : ℕ → ℕ → Stamp
stamp_of_day day s = stamp (year_of day).0 (month_of (year_of day).0 (year_of day).1).0 (month_of (year_of day).0 (year_of day).1).1 s

-- the stamp at some seconds from the start of 1970, which is 25932 days after that of 1899
unfoldable pub stamp_at : ℤ → Stamp
stamp_at z = stamp_of_day (unsigned_abs (z +ℤ pos (25932 * 86400)) / 86400) (unsigned_abs (z +ℤ pos (25932 * 86400)) % 86400)
