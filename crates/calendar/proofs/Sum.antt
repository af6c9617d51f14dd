-- Sums of consecutive parts, and the place of a number among them.
use Rattle.std.proofs.Common.{◌≡◌, ℕ, zero, suc, ◌+◌, ◌-◌, ◌*◌, ◌<◌, ◌≤◌, Bool, true, false, cond, refl, ap, ◌∙◌, inl, inr, arith}
use Rattle.std.proofs.lemmas.Bool.{cases_order, cases_lt}
use Rattle.calendar.specs.Calendar.{leap, year_days, month_days, sum_below, sum_between, days_before_year, days_before_month}

-- one more place
pub between_more : (f : ℕ → ℕ) (a n : ℕ) → a ≤ n → sum_between f a (n + 1) ≡ sum_between f a n + f n
between_more f a n h =
    let e : n + 1 - a ≡ suc (n - a) = omega arith in
    let g : a + (n - a) ≡ n = omega arith in
    ap (sum_below (λ k. f (a + k))) e ∙ ap (λ k. sum_between f a n + f k) g

pub below_le : (f : ℕ → ℕ) (m : ℕ) → ((k : ℕ) → f k ≤ m) → (n : ℕ) → sum_below f n ≤ m * n
below_le f m h zero = omega arith
below_le f m h (suc n) = omega (arith, below_le f m h n, h n)

pub below_ge : (f : ℕ → ℕ) (m : ℕ) → ((k : ℕ) → m ≤ f k) → (n : ℕ) → m * n ≤ sum_below f n
below_ge f m h zero = omega arith
below_ge f m h (suc n) = omega (arith, below_ge f m h n, h n)

-- where i comes before j, the whole of i's part does
pub below_mono : (f : ℕ → ℕ) (i j : ℕ) → i < j → sum_below f i + f i ≤ sum_below f j
below_mono f i zero h = absurd (omega arith)
below_mono f i (suc j) h = elim (cases_order i j) [ inl e ↦ omega (arith, ap (λ k. sum_below f k + f k) e) | inr o ↦ elim o [ inl l ↦ omega (arith, below_mono f i j l) | inr g ↦ absurd (omega arith) ] ]

-- a number has one place, among parts that are laid end to end
pub place_unique : (f : ℕ → ℕ) (i j r q : ℕ) → r < f i → q < f j → sum_below f i + r ≡ sum_below f j + q → (i ≡ j) × (r ≡ q)
place_unique f i j r q h k e = elim (cases_order i j) [
  | inl s ↦ (s, omega (arith, ap (sum_below f) s))
  | inr o ↦ elim o [ inl l ↦ absurd (omega (arith, below_mono f i j l)) | inr g ↦ absurd (omega (arith, below_mono f j i g)) ]
]

pub between_mono : (f : ℕ → ℕ) (a i j : ℕ) → a ≤ i → i < j → sum_between f a i + f i ≤ sum_between f a j
between_mono f a i j h l =
    let g : a + (i - a) ≡ i = omega arith in
    omega (arith, below_mono (λ k. f (a + k)) (i - a) (j - a) (omega arith), ap f g)

-- the smaller sum ends first
pub between_order : (f : ℕ → ℕ) (a i j : ℕ) → a ≤ j → sum_between f a i < sum_between f a j → i < j
between_order f a i j h l = elim (cases_order i j) [
  | inl e ↦ absurd (omega (arith, ap (sum_between f a) e))
  | inr o ↦ elim o [ inl k ↦ k | inr g ↦ absurd (omega (arith, between_mono f a j i h g)) ]
]

pub between_unique : (f : ℕ → ℕ) (a i j r q : ℕ) → a ≤ i → a ≤ j → r < f i → q < f j → sum_between f a i + r ≡ sum_between f a j + q → (i ≡ j) × (r ≡ q)
between_unique f a i j r q h k l m e =
    let gi : a + (i - a) ≡ i = omega arith in
    let gj : a + (j - a) ≡ j = omega arith in
    let u = place_unique (λ k. f (a + k)) (i - a) (j - a) r q (omega (arith, ap f gi)) (omega (arith, ap f gj)) e in
    (omega (arith, u.0), u.1)

-- each number below the whole sum lies in one of the parts
pub place_exists : (f : ℕ → ℕ) (n d : ℕ) → d < sum_below f n → (i : ℕ) × (i < n) × (sum_below f i ≤ d) × (d < sum_below f i + f i)
place_exists f zero d h = absurd (omega arith)
place_exists f (suc n) d h = elim (cases_lt d (sum_below f n)) [
  | inl l ↦ let p = place_exists f n d l in (p.0, omega (arith, p.1), p.2, p.3)
  | inr g ↦ (n, omega arith, g, h)
]

pub between_exists : (f : ℕ → ℕ) (a b d : ℕ) → d < sum_between f a b → (i : ℕ) × (a ≤ i) × (i < b) × (sum_between f a i ≤ d) × (d < sum_between f a i + f i)
between_exists f a b d h =
    let p = place_exists (λ k. f (a + k)) (b - a) d h in
    let e : a + p.0 - a ≡ p.0 = omega arith in
    let s = ap (sum_below (λ k. f (a + k))) e in
    (a + p.0, omega arith, omega (arith, p.1), omega (arith, s, p.2), omega (arith, s, p.3))

pub between_le : (f : ℕ → ℕ) (m : ℕ) → ((k : ℕ) → f k ≤ m) → (a b : ℕ) → sum_between f a b ≤ m * (b - a)
between_le f m h a b = below_le (λ k. f (a + k)) m (λ k. h (a + k)) (b - a)

pub between_ge : (f : ℕ → ℕ) (m : ℕ) → ((k : ℕ) → m ≤ f k) → (a b : ℕ) → m * (b - a) ≤ sum_between f a b
between_ge f m h a b = below_ge (λ k. f (a + k)) m (λ k. h (a + k)) (b - a)

pub year_days_ge : (y : ℕ) → 365 ≤ year_days y
year_days_ge y = grind arith

pub year_days_le : (y : ℕ) → year_days y ≤ 366
year_days_le y = grind arith

-- the months are the year
pub months_year : (y : ℕ) → days_before_month y 13 ≡ year_days y
months_year y = go (leap y) refl
  where
    go : (b : Bool) → leap y ≡ b → days_before_month y 13 ≡ year_days y
    go true e = rw e
    go false e = rw e

pub february : (y m : ℕ) (b : Bool) → m ≡ 2 → b ≡ leap y → cond b 29 28 ≡ month_days y m
february y m b e h = rw (e, h)

pub in_year : (y m r : ℕ) → 1 ≤ m → m ≤ 12 → r < month_days y m → days_before_month y m + r < year_days y
in_year y m r h k l = omega (arith, between_mono (month_days y) 1 m 13 h (omega arith), months_year y)

-- a day has one date
pub day_unique : (y m r y2 m2 r2 : ℕ) → 1899 ≤ y → 1899 ≤ y2 → 1 ≤ m → m ≤ 12 → 1 ≤ m2 → m2 ≤ 12 → r < month_days y m → r2 < month_days y2 m2 → days_before_year y + days_before_month y m + r ≡ days_before_year y2 + days_before_month y2 m2 + r2 → (y ≡ y2) × (m ≡ m2) × (r ≡ r2)
day_unique y m r y2 m2 r2 a a2 b c b2 c2 l l2 e =
    let u = between_unique year_days 1899 y y2 (days_before_month y m + r) (days_before_month y2 m2 + r2) a a2 (in_year y m r b c l) (in_year y2 m2 r2 b2 c2 l2) (omega arith) in
    let v = between_unique (month_days y) 1 m m2 r r2 b b2 l (omega (arith, ap (λ z. month_days z m2) u.0)) (omega (arith, u.1, ap (λ z. days_before_month z m2) u.0)) in
    (u.0, v.0, v.1)
