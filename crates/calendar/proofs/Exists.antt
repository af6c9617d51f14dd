-- Each second in range has a valid stamp, and each valid stamp has its seconds in range.
use Rattle.std.proofs.Common.{◌≡◌, ℕ, suc, ◌+◌, ◌-◌, ◌*◌, ◌/◌, ◌%◌, ◌<◌, ◌≤◌, ℤ, pos, negsuc, arith}
use Rattle.std.proofs.lemmas.Int.{ints}
use Rattle.calendar.specs.declared.dates.Stamp.{Stamp}
use Rattle.calendar.specs.Calendar.{year_days, month_days, days_before_year, days_before_month, Valid, seconds_from_1899, seconds, InRange}
use Rattle.calendar.proofs.Sum.{between_exists, months_year}
use Rattle.calendar.proofs.Unique.{day_number_small}

-- each day has a year and a month
pub day_exists : (d : ℕ) → d < 73779 → (y m r : ℕ) × (1899 ≤ y) × (y ≤ 2100) × (1 ≤ m) × (m ≤ 12) × (r < month_days y m) × (days_before_year y + days_before_month y m + r ≡ d)
day_exists d h =
    let p = between_exists year_days 1899 2101 d (omega arith) in
    let rest : ℕ = d - days_before_year p.0 in
    let q = between_exists (month_days p.0) 1 13 rest (omega (arith, p.3, p.4, months_year p.0)) in
    (p.0, q.0, rest - days_before_month p.0 q.0, p.1, omega (arith, p.2), q.1, omega (arith, q.2), omega (arith, q.3, q.4), omega (arith, p.3, q.3))

pub from_1899_exists : (n : ℕ) → n < 73779 * 86400 → (d : Stamp) × Valid d × (seconds_from_1899 d ≡ n)
from_1899_exists n h =
    let p = day_exists (n / 86400) (omega arith) in
    let t : ℕ = n % 86400 in
    let s : Stamp = record { year = p.0; month = p.1; day = p.2 + 1; hour = t / 3600; minute = t / 60 % 60; second = t % 60 } in
    let v : Valid s = record {
      first_year = p.3;
      last_year = p.4;
      first_month = p.5;
      last_month = p.6;
      first_day = omega arith;
      last_day = omega (arith, p.7);
      last_hour = omega arith;
      last_minute = omega arith;
      last_second = omega arith;
    } in
    (s, v, omega (arith, p.8))

-- each second in range has a valid stamp
pub seconds_exist : (n : ℤ) → InRange n → (d : Stamp) × Valid d × (seconds d ≡ n)
seconds_exist (pos k) h = let p = from_1899_exists (k + 25932 * 86400) (omega (arith, ints)) in (p.0, p.1, omega (arith, ints, p.2))
seconds_exist (negsuc k) h = let g : k < 2240524800 = omega (arith, ints) in let p = from_1899_exists (25932 * 86400 - suc k) (omega arith) in (p.0, p.1, omega (arith, ints, p.2))

-- a valid stamp has its seconds in range
pub seconds_inside : (d : Stamp) → Valid d → InRange (seconds d)
seconds_inside d v =
    let s = day_number_small d v in
    record { from_1899 = omega (arith, ints); before_2101 = omega (arith, ints) }
