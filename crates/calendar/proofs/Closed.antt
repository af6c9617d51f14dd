-- The days before a year and before a month in closed form, and the bounds of a first guess.
use Rattle.std.proofs.Common.{◌≡◌, ℕ, zero, suc, ◌+◌, ◌-◌, ◌*◌, ◌/◌, ◌<◌, ◌≤◌, Bool, true, false, cond, ◌&&◌, eqb, ltb, leb, ◌⊎◌, [], ◌∷◌, get_or, Decides, refl, ap, ◌∙◌, inl, inr, arith}
use Rattle.std.proofs.lemmas.Bool.{leb-true, le-leb}
use Rattle.std.proofs.lemmas.Bool.Decides.{nat_tests, Decides-and, Decides-eqb, Decides-below_and}
use Rattle.calendar.specs.Calendar.{leap, year_days, sum_below, days_before_year, days_before_month}
use Rattle.calendar.proofs.Sum.{between_ge, between_le, year_days_ge, year_days_le}

-- one more year
year_step : (y z : ℕ) → z ≡ y + 1 → year_days z + y / 4 + y / 400 + z / 100 ≡ 365 + z / 4 + z / 400 + y / 100
year_step y z e = grind (arith, nat_tests)

-- the quotients as plain numbers: q by 4, h by 100, c by 400
joined : (s d y z q h c q2 h2 c2 : ℕ) → z ≡ y + 1 → s + 693230 + h ≡ 365 * y + q + c → d + q + c + h2 ≡ 365 + q2 + c2 + h → s + d + 693230 + h2 ≡ 365 * z + q2 + c2
joined s d y z q h c q2 h2 c2 n e f = omega arith

years_below : (k z : ℕ) → z ≡ 1898 + k → sum_below (λ j. year_days (1899 + j)) k + 693230 + z / 100 ≡ 365 * z + z / 4 + z / 400
years_below zero z e = rw e
years_below (suc k) z e =
    let y : ℕ = 1898 + k in
    let n : z ≡ y + 1 = omega arith in
    let g : 1899 + k ≡ z = omega arith in
    let d : ℕ = year_days (1899 + k) in
    let f = ap (λ x. x + y / 4 + y / 400 + z / 100) (ap year_days g) ∙ year_step y z n in
    joined (sum_below (λ j. year_days (1899 + j)) k) d y z (y / 4) (y / 100) (y / 400) (z / 4) (z / 100) (z / 400) n (years_below k y refl) f

-- the leap years are each fourth, but for each hundredth that is no four hundredth
pub years_closed : (y : ℕ) → 1899 ≤ y → days_before_year y + 693230 + (y - 1) / 100 ≡ 365 * (y - 1) + (y - 1) / 4 + (y - 1) / 400
years_closed y h = years_below (y - 1899) (y - 1) (omega arith)

-- a year has 365 or 366 days
pub year_bounds : (y : ℕ) → (365 * (y - 1899) ≤ days_before_year y) × (days_before_year y ≤ 366 * (y - 1899))
year_bounds y = (between_ge year_days 365 year_days_ge 1899 y, between_le year_days 366 year_days_le 1899 y)

-- counting all years as leap years gives that year or the one before
pub year_guess : (d : ℕ) → days_before_year (1899 + d / 366) ≤ d
year_guess d = omega (arith, (year_bounds (1899 + d / 366)).1)

pub year_guess_next : (d : ℕ) → d < 73779 → d < days_before_year (1899 + d / 366 + 1 + 1)
year_guess_next d h = omega (arith, (year_bounds (1899 + d / 366 + 1 + 1)).0)

-- every number below n passes the test
abbrev every : (ℕ → Bool) → ℕ → Bool
every p zero = true
every p (suc n) = p n && every p n

-- the days of the month m, in a leap year if b
abbrev days_of : Bool → ℕ → ℕ
days_of b m = get_or (0 ∷ 31 ∷ cond b 29 28 ∷ 31 ∷ 30 ∷ 31 ∷ 30 ∷ 31 ∷ 31 ∷ 30 ∷ 31 ∷ 30 ∷ 31 ∷ []) m 0

-- the days before the month k + 1
abbrev before : Bool → ℕ → ℕ
before b k = sum_below (λ j. days_of b (1 + j)) k

-- the days of a common year before the month k + 1
abbrev pub common : ℕ → ℕ
common k = get_or (0 ∷ 31 ∷ 59 ∷ 90 ∷ 120 ∷ 151 ∷ 181 ∷ 212 ∷ 243 ∷ 273 ∷ 304 ∷ 334 ∷ 365 ∷ []) k 0

-- the days before the month k + 1 by that table, and the month's bounds, as one test
abbrev tested : Bool → ℕ → Bool
tested b k = eqb (before b k) (common k + cond (ltb 1 k && b) 1 0) && (leb (before b k) (31 * k) && leb (31 * k) (before b k + 7))

-- what the test shows
abbrev Shown : Bool → ℕ → Type 0
Shown b k = (before b k ≡ common k + cond (ltb 1 k && b) 1 0) × ((before b k ≤ 31 * k) × (31 * k ≤ before b k + 7))

shown_by : (b : Bool) (k : ℕ) → Decides (tested b k) (Shown b k)
shown_by b k =
    let x = before b k in
    Decides-and (eqb x (common k + cond (ltb 1 k && b) 1 0)) (leb x (31 * k) && leb (31 * k) (x + 7)) (Decides-eqb x (common k + cond (ltb 1 k && b) 1 0))
    (Decides-and (leb x (31 * k)) (leb (31 * k) (x + 7)) (leb-true x (31 * k), le-leb x (31 * k)) (leb-true (31 * k) (x + 7), le-leb (31 * k) (x + 7)))

shown : (b : Bool) (k : ℕ) → k < 13 → Shown b k
shown true k h = (Decides-below_and (tested true) (Shown true) (every (tested true)) (shown_by true) refl (λ _. refl) 13).0 refl k h
shown false k h = (Decides-below_and (tested false) (Shown false) (every (tested false)) (shown_by false) refl (λ _. refl) 13).0 refl k h

after_leap_day : (x t k : ℕ) (b : Bool) → t ≡ x + cond (ltb 1 k && b) 1 0 → 1 < k → b ≡ true → x + 1 ≡ t
after_leap_day x t k b e h f = grind (arith, nat_tests)

no_leap_day : (x t k : ℕ) (b : Bool) → t ≡ x + cond (ltb 1 k && b) 1 0 → (k ≤ 1) ⊎ (b ≡ false) → x ≡ t
no_leap_day x t k b e (inl h) = grind (arith, nat_tests)
no_leap_day x t k b e (inr h) = grind (arith, nat_tests)

-- after February of a leap year: one day more than in the table
pub month_after_leap_day : (y m : ℕ) → m ≤ 13 → 2 < m → leap y ≡ true → common (m - 1) + 1 ≡ days_before_month y m
month_after_leap_day y m h k e = after_leap_day (common (m - 1)) (days_before_month y m) (m - 1) (leap y) (shown (leap y) (m - 1) (omega arith)).0 (omega arith) e

-- else the days of the table
pub month_without : (y m : ℕ) → m ≤ 13 → 1 ≤ m → (m - 1 ≤ 1) ⊎ (leap y ≡ false) → common (m - 1) ≡ days_before_month y m
month_without y m h k e = no_leap_day (common (m - 1)) (days_before_month y m) (m - 1) (leap y) (shown (leap y) (m - 1) (omega arith)).0 e

-- months have at most 31 days, and seven fewer in all at most
pub month_bounds : (y m : ℕ) → 1 ≤ m → m ≤ 13 → (days_before_month y m ≤ 31 * (m - 1)) × (31 * (m - 1) ≤ days_before_month y m + 7)
month_bounds y m h k = (shown (leap y) (m - 1) (omega arith)).1

-- counting 31 days to each month gives that month or the one before
pub month_guess : (y d : ℕ) → d < 372 → days_before_month y (1 + d / 31) ≤ d
month_guess y d h = omega (arith, (month_bounds y (1 + d / 31) (omega arith) (omega arith)).0)

pub month_guess_next : (y d : ℕ) → 1 + d / 31 + 1 < 13 → d < days_before_month y (1 + d / 31 + 1 + 1)
month_guess_next y d h = omega (arith, (month_bounds y (1 + d / 31 + 1 + 1) (omega arith) (omega arith)).1)
