-- No two valid stamps have the same seconds.
use Rattle.std.proofs.Common.{◌≡◌, ℕ, ◌-◌, ◌<◌, ◌≤◌, Bool, true, false, cond, [], ◌∷◌, arith}
use Rattle.std.proofs.lemmas.Int.{ints}
use Rattle.std.proofs.ByRecursion.{All-get_or}
use Rattle.calendar.specs.declared.dates.Stamp.{Stamp}
use Rattle.calendar.specs.Calendar.{leap, year_days, month_days, Valid, day_number, second_of_day, seconds_from_1899, seconds}
use Rattle.calendar.proofs.Sum.{between_mono, in_year, day_unique}

feb_le : (b : Bool) → cond b 29 28 ≤ 31
feb_le true = omega arith
feb_le false = omega arith

pub month_days_le : (y m : ℕ) → m ≤ 12 → month_days y m ≤ 31
month_days_le y m h =
    let f = feb_le (leap y) in
    All-get_or (λ x. x ≤ 31) (0 ∷ 31 ∷ cond (leap y) 29 28 ∷ 31 ∷ 30 ∷ 31 ∷ 30 ∷ 31 ∷ 31 ∷ 30 ∷ 31 ∷ 30 ∷ 31 ∷ []) m 0 (omega arith) (omega arith)

-- the last day of 2100 is the 73778th after 1 January 1899
pub day_number_small : (d : Stamp) → Valid d → day_number d < 73779
day_number_small d v = omega (arith, v.last_year, in_year d.year d.month (d.day - 1) v.first_month v.last_month (omega arith), between_mono year_days 1899 d.year 2101 v.first_year (omega arith))

unfoldable made : ℕ → ℕ → ℕ → ℕ → ℕ → ℕ → Stamp
made y m d h i s = record { year = y; month = m; day = d; hour = h; minute = i; second = s }

same_made : (y y2 m m2 d d2 h h2 i i2 s s2 : ℕ) → y ≡ y2 → m ≡ m2 → d ≡ d2 → h ≡ h2 → i ≡ i2 → s ≡ s2 → made y m d h i s ≡ made y2 m2 d2 h2 i2 s2
same_made y y2 m m2 d d2 h h2 i i2 s s2 a b c e f g = cc

pub from_1899_unique : (a b : Stamp) → Valid a → Valid b → seconds_from_1899 a ≡ seconds_from_1899 b → a ≡ b
unfolding made
from_1899_unique a b v w n =
    let q : day_number a ≡ day_number b = omega arith in
    let s : second_of_day a ≡ second_of_day b = omega arith in
    let u = day_unique a.year a.month (a.day - 1) b.year b.month (b.day - 1) v.first_year w.first_year v.first_month v.last_month w.first_month w.last_month (omega arith) (omega arith) q in
    same_made a.year b.year a.month b.month a.day b.day a.hour b.hour a.minute b.minute a.second b.second u.0 u.1 (omega (arith, u.2)) (omega arith) (omega arith) (omega arith)

-- no two valid stamps have the same seconds
pub seconds_unique : (a b : Stamp) → Valid a → Valid b → seconds a ≡ seconds b → a ≡ b
seconds_unique a b v w e = from_1899_unique a b v w (omega (arith, ints))
