-- The stamp at the seconds of a valid stamp is that stamp. Assumes nothing.
use Rattle.std.proofs.Common.{◌≡◌, ℕ, zero, suc, ◌+◌, ◌-◌, ◌*◌, ◌/◌, ◌%◌, ◌<◌, ◌≤◌, ltb, ℤ, pos, ◌+ℤ◌, nat_abs, sym, refl, ap, ◌∙◌, subst, arith}
use Rattle.std.proofs.lemmas.Int.{ints}
use Rattle.std.proofs.lemmas.Bool.{cond-true, cond-false, lt-ltb, le-ltb}
use Rattle.calendar.specs.declared.dates.Stamp.{Stamp}
use Rattle.calendar.specs.Calendar.{year_days, month_days, sum_below, days_before_year, days_before_month, Valid, InRange, day_number, second_of_day, seconds_from_1899, seconds}
use Rattle.calendar.proofs.Sum.{in_year}
use Rattle.calendar.proofs.Exists.{seconds_exist}
use Rattle.zonetext.specs.Stamps.{count_off, year_of, month_of, stamp, stamp_of_day, stamp_at}

-- the first of the parts of a sum
sum_front : (f : ℕ → ℕ) (k j : ℕ) → sum_below (λ i. f (k + i)) (suc j) ≡ f k + sum_below (λ i. f (k + 1 + i)) j
sum_front f k zero = let e : k + 0 ≡ k = omega arith in let g = ap f e in omega arith
sum_front f k (suc j) =
    let e : k + suc j ≡ k + 1 + j = omega arith in
    let g = ap f e in
    let ih = sum_front f k j in
    omega arith

-- j parts are counted off
pub count_off_at : (f : ℕ → ℕ) (m j k r : ℕ) → j < m → r < f (k + j) → count_off f m k (sum_below (λ i. f (k + i)) j + r) ≡ (k + j, r)
count_off_at f zero j k r h l = absurd (omega arith)
count_off_at f (suc m) zero k r h l =
    let e : k + 0 ≡ k = omega arith in
    let g = ap f e in
    let z : 0 + r ≡ r = omega arith in
    cond-true (ltb (0 + r) (f k)) (k, 0 + r) _ (lt-ltb (0 + r) (f k) (omega arith)) ∙ (λ i. (sym e i, z i))
count_off_at f (suc m) (suc j) k r h l =
    let n = sum_below (λ i. f (k + i)) (suc j) + r in
    let front = sum_front f k j in
    let e : k + suc j ≡ k + 1 + j = omega arith in
    let g = ap f e in
    let rest : n - f k ≡ sum_below (λ i. f (k + 1 + i)) j + r = omega arith in
    cond-false (ltb n (f k)) (k, n) _ (le-ltb n (f k) (omega arith))
    ∙ ap (λ x. count_off f m (k + 1) x) rest
    ∙ count_off_at f m j (k + 1) r (omega arith) (omega arith)
    ∙ (λ i. (sym e i, r))

year_back : (y r : ℕ) → 1899 ≤ y → y ≤ 2100 → r < year_days y → year_of (days_before_year y + r) ≡ (y, r)
year_back y r a b l =
    let e : 1899 + (y - 1899) ≡ y = omega arith in
    let g = ap year_days e in
    count_off_at year_days 202 (y - 1899) 1899 r (omega arith) (omega arith) ∙ (λ i. (e i, r))

month_back : (y m r : ℕ) → 1 ≤ m → m ≤ 12 → r < month_days y m → month_of y (days_before_month y m + r) ≡ (m, r)
month_back y m r a b l =
    let e : 1 + (m - 1) ≡ m = omega arith in
    let g = ap (month_days y) e in
    count_off_at (month_days y) 12 (m - 1) 1 r (omega arith) (omega arith) ∙ (λ i. (e i, r))

unfoldable made : ℕ → ℕ → ℕ → ℕ → ℕ → ℕ → Stamp
made y m d h i s = record { year = y; month = m; day = d; hour = h; minute = i; second = s }

same_made : (y y2 m m2 d d2 h h2 i i2 s s2 : ℕ) → y ≡ y2 → m ≡ m2 → d ≡ d2 → h ≡ h2 → i ≡ i2 → s ≡ s2 → made y m d h i s ≡ made y2 m2 d2 h2 i2 s2
same_made y y2 m m2 d d2 h h2 i i2 s s2 a b c e f g = cc

day_back : (d : Stamp) → Valid d → stamp_of_day (day_number d) (second_of_day d) ≡ d
unfolding made
day_back d v =
    let y = d.year in
    let m = d.month in
    let q = days_before_month y m + (d.day - 1) in
    let s = second_of_day d in
    let all : day_number d ≡ days_before_year y + q = omega arith in
    let yr : year_of (day_number d) ≡ (y, q) = ap year_of all ∙ year_back y q v.first_year v.last_year (in_year y m (d.day - 1) v.first_month v.last_month (omega (arith, v.first_day, v.last_day))) in
    let mo = month_back y m (d.day - 1) v.first_month v.last_month (omega (arith, v.first_day, v.last_day)) in
    ap (λ p. stamp p.0 (month_of p.0 p.1).0 (month_of p.0 p.1).1 s) yr
    ∙ ap (λ p. stamp y p.0 p.1 s) mo
    ∙ same_made y y m m (d.day - 1 + 1) d.day (s / 3600) d.hour (s / 60 % 60) d.minute (s % 60) d.second refl refl (omega (arith, v.first_day)) (omega (arith, v.last_hour, v.last_minute, v.last_second)) (omega (arith, v.last_hour, v.last_minute, v.last_second)) (omega (arith, v.last_hour, v.last_minute, v.last_second))

pub stamp_back : (d : Stamp) → Valid d → stamp_at (seconds d) ≡ d
unfolding stamp_at
stamp_back d v =
    let n : nat_abs (seconds d +ℤ pos (25932 * 86400)) ≡ seconds_from_1899 d = omega (arith, ints) in
    let t : second_of_day d < 86400 = omega (arith, v.last_hour, v.last_minute, v.last_second) in
    let q : seconds_from_1899 d / 86400 ≡ day_number d = omega arith in
    let r : seconds_from_1899 d % 86400 ≡ second_of_day d = omega arith in
    (λ i. stamp_of_day (n i / 86400) (n i % 86400)) ∙ (λ i. stamp_of_day (q i) (r i)) ∙ day_back d v

-- every second in range has its stamp
pub stamp_there : (z : ℤ) → InRange z → Valid (stamp_at z) × (seconds (stamp_at z) ≡ z)
stamp_there z h =
    let d = seconds_exist z h in
    let e : stamp_at z ≡ d.0 = ap stamp_at (sym d.2) ∙ stamp_back d.0 d.1 in
    (subst Valid (sym e) d.1, ap seconds e ∙ d.2)
