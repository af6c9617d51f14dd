-- What the rows that are read keep, and the rows of a window. Assumes nothing.
use Rattle.std.proofs.Common.{◌≡◌, ℕ, zero, suc, ◌+◌, ◌-◌, ◌<◌, ◌≤◌, true, ◌&&◌, ◌||◌, eqb, List, [], ◌∷◌, ◌++◌, length, ℤ, ◌≤ℤ◌, ◌<ℤ◌, sym, refl, ap, ◌∙◌, subst, inl, inr, arith}
use lib.Signed.{lt_z, le_z}
use Rattle.std.proofs.lemmas.List.{length_push, length-append, get_or_append_left, get_or_push, get_or_at}
use Rattle.std.proofs.lemmas.Int.{ints}
use Rattle.std.proofs.lemmas.Bool.{cases_lt, and_from, and_parts, or_cases, or_left, or_right, eqb-true, eq-eqb}
use Rattle.zone.specs.declared.rows.Instant.{Instant}
use Rattle.zone.specs.declared.rows.Interval.{Interval}
use Rattle.zone.specs.declared.rows.Row.{Row}
use Rattle.zone.specs.Intervals.{era, has_instant}
use Rattle.zone.specs.Rows.{at, no_row, Offset, Joined, Small, Sound, window_rows}
use Rattle.zone.specs.Tables.{follows}
use Rattle.zone.proofs.Testing.{decides_same}
use Rattle.zonetext.specs.Reading.{inside, may_come}

-- of rows that are read, up to the window's end u
pub record Kept (u : ℤ) (rs : List Row) : Type 0 where
  pub from_start : (k : ℕ) → k < length rs → era.start ≤ℤ (at rs k).onset
  pub before_end : (k : ℕ) → k < length rs → (at rs k).onset <ℤ u
  pub joined : Joined rs
  pub small : Small rs

pub kept_none : (u : ℤ) → Kept u []
kept_none u = record { from_start = λ k l. absurd (omega arith); before_end = λ k l. absurd (omega arith); joined = λ k l. absurd (omega arith); small = λ k l. absurd (omega arith) }

-- tests and what they say
pub lt_yes : (a b : ℤ) → lt_z a b ≡ true → a <ℤ b
lt_yes a b h = grind (arith, ints)

pub le_yes : (a b : ℤ) → le_z a b ≡ true → a ≤ℤ b
le_yes a b h = grind (arith, ints)

pub yes_lt : (a b : ℤ) → a <ℤ b → lt_z a b ≡ true
yes_lt a b h = grind (arith, ints)

pub yes_le : (a b : ℤ) → a ≤ℤ b → le_z a b ≡ true
yes_le a b h = grind (arith, ints)

follows_parts : (a b : Row) → follows a b ≡ true → (a.onset <ℤ b.onset) × (b.from ≡ a.to)
follows_parts a b h = let p = and_parts (lt_z a.onset b.onset) (le_z b.from a.to && le_z a.to b.from) h in (lt_yes _ _ p.0, (decides_same b.from a.to).0 p.1)

follows_from : (a b : Row) → a.onset <ℤ b.onset → b.from ≡ a.to → follows a b ≡ true
follows_from a b h e = and_from (lt_z a.onset b.onset) (le_z b.from a.to && le_z a.to b.from) (yes_lt _ _ h) ((decides_same b.from a.to).1 e)

-- what holds of each row, and of one more
more_places : (P : Row → Type 0) (rs : List Row) (row : Row) → ((k : ℕ) → k < length rs → P (at rs k)) → P row → (k : ℕ) → k < length (rs ++ row ∷ []) → P (at (rs ++ row ∷ []) k)
more_places P rs row h p k l = elim (cases_lt k (length rs)) [
  | inl a ↦ subst P (sym (get_or_append_left rs (row ∷ []) no_row k a)) (h k a)
  | inr b ↦ let e : length rs ≡ k = omega (arith, length_push rs row) in subst P (sym (get_or_push rs row no_row k e)) p
]

-- two neighbours
abbrev Next : Row → Row → Type 0
Next a b = (a.onset <ℤ b.onset) × (b.from ≡ a.to)

more_joined : (rs : List Row) (row : Row) → Joined rs → (0 < length rs → Next (at rs (length rs - 1)) row) → Joined (rs ++ row ∷ [])
more_joined rs row h p k l =
    let n = length_push rs row in
    let old : at (rs ++ row ∷ []) k ≡ at rs k = get_or_append_left rs (row ∷ []) no_row k (omega arith) in
    elim (cases_lt (k + 1) (length rs)) [
      | inl a ↦ subst (λ x. Next x (at (rs ++ row ∷ []) (k + 1))) (sym old) (subst (λ x. Next (at rs k) x) (sym (get_or_append_left rs (row ∷ []) no_row (k + 1) a)) (h k a))
      | inr b ↦
          let e : length rs ≡ k + 1 = omega arith in
          let q : length rs - 1 ≡ k = omega arith in
          subst (λ x. Next x (at (rs ++ row ∷ []) (k + 1))) (sym old) (subst (λ x. Next (at rs k) x) (sym (get_or_push rs row no_row (k + 1) e)) (subst (λ j. Next (at rs j) row) q (p (omega arith))))
    ]

inside_parts : (u : Instant) (row : Row) → inside u row ≡ true → (era.start ≤ℤ row.onset) × (row.onset <ℤ u.0)
inside_parts u row h =
    let p = and_parts (has_instant era row.onset) (lt_z row.onset u.0) h in
    let q = and_parts (le_z era.start row.onset) (lt_z row.onset era.end) p.0 in
    (le_yes _ _ q.0, lt_yes _ _ p.1)

-- a row that may come next
pub kept_more : (u : Instant) (rs : List Row) (row : Row) → Kept u.0 rs → may_come u rs row ≡ true → Offset row.from × Offset row.to → Kept u.0 (rs ++ row ∷ [])
kept_more u rs row h m o =
    let p = and_parts (inside u row) (eqb (length rs) 0 || follows (at rs (length rs - 1)) row) m in
    let q = inside_parts u row p.0 in
    let last : 0 < length rs → Next (at rs (length rs - 1)) row = λ l. elim (or_cases (eqb (length rs) 0) (follows (at rs (length rs - 1)) row) p.1) [
      | inl z ↦ absurd (omega (arith, eqb-true (length rs) 0 z))
      | inr f ↦ follows_parts (at rs (length rs - 1)) row f
    ] in
    record {
      from_start = more_places (λ x. era.start ≤ℤ x.onset) rs row h.from_start q.0;
      before_end = more_places (λ x. x.onset <ℤ u.0) rs row h.before_end q.1;
      joined = more_joined rs row h.joined last;
      small = more_places (λ x. Offset x.from × Offset x.to) rs row h.small o;
    }

-- rows that are read are those of a window
pub kept_sound : (u : ℤ) (rs : List Row) → Kept u rs → 0 < length rs → length rs ≤ window_rows → le_z u era.end ≡ true → Sound window_rows (record { start = (at rs 0).onset; end = u }) rs
kept_sound u rs h s l e =
    record {
      in_era = and_from (le_z era.start (at rs 0).onset) (lt_z (at rs 0).onset u && le_z u era.end) (yes_le _ _ (h.from_start 0 s)) (and_from (lt_z (at rs 0).onset u) (le_z u era.end) (yes_lt _ _ (h.before_end 0 s)) e);
      covers = record { begins = (s, refl); joined = h.joined; ends = h.before_end (length rs - 1) (omega arith); small = h.small };
      few = l;
    }

-- onsets rise
rising : (rs : List Row) → Joined rs → (i k : ℕ) → i + k < length rs → (at rs i).onset ≤ℤ (at rs (i + k)).onset
rising rs h i zero l = let e : i + 0 ≡ i = omega arith in let z = ap (λ j. (at rs j).onset) e in omega (arith, ints)
rising rs h i (suc k) l =
    let e : i + suc k ≡ i + k + 1 = omega arith in
    let z = ap (λ j. (at rs j).onset) e in
    let ih = rising rs h i k (omega arith) in
    let n = (h (i + k) (omega arith)).0 in
    omega (arith, ints)

-- the rows of a window keep what rows that are read keep
pub sound_kept : (n : ℕ) (i : Interval) (rs : List Row) → Sound n i rs → Kept i.end rs
sound_kept n i rs s =
    let w = and_parts (le_z era.start i.start) (lt_z i.start i.end && le_z i.end era.end) s.in_era in
    let first = le_yes era.start i.start w.0 in
    let is = s.covers.begins.1 in
    let some = s.covers.begins.0 in
    record {
      from_start = λ k l. let r = rising rs s.covers.joined 0 k (omega arith) in let z : 0 + k ≡ k = omega arith in let y = ap (λ j. (at rs j).onset) z in omega (arith, ints);
      before_end = λ k l. let r = rising rs s.covers.joined k (length rs - 1 - k) (omega arith) in let z : k + (length rs - 1 - k) ≡ length rs - 1 = omega arith in let y = ap (λ j. (at rs j).onset) z in let e = s.covers.ends in omega (arith, ints);
      joined = s.covers.joined;
      small = s.covers.small;
    }

-- the next row of those of a window may come next
pub next_comes : (u : Instant) (acc : List Row) (row : Row) (more : List Row) → le_z u.0 era.end ≡ true → Kept u.0 (acc ++ row ∷ more) → may_come u acc row ≡ true
next_comes u acc row more e h =
    let rs = acc ++ row ∷ more in
    let n = length-append acc (row ∷ more) in
    let here : at rs (length acc) ≡ row = get_or_at acc row more no_row (length acc) refl in
    let a : era.start ≤ℤ row.onset = subst (λ x. era.start ≤ℤ x.onset) here (h.from_start (length acc) (omega arith)) in
    let b : row.onset <ℤ u.0 = subst (λ x. x.onset <ℤ u.0) here (h.before_end (length acc) (omega arith)) in
    let c = le_yes u.0 era.end e in
    let end : row.onset <ℤ era.end = omega (arith, ints) in
    let in_window : inside u row ≡ true = and_from (has_instant era row.onset) (lt_z row.onset u.0) (and_from (le_z era.start row.onset) (lt_z row.onset era.end) (yes_le _ _ a) (yes_lt _ _ end)) (yes_lt _ _ b) in
    let before : (eqb (length acc) 0 || follows (at acc (length acc - 1)) row) ≡ true = elim (cases_lt 0 (length acc)) [
      | inl l ↦
          let k : length acc - 1 + 1 ≡ length acc = omega arith in
          let old : at rs (length acc - 1) ≡ at acc (length acc - 1) = get_or_append_left acc (row ∷ more) no_row (length acc - 1) (omega arith) in
          let j = h.joined (length acc - 1) (omega arith) in
          let next : Next (at acc (length acc - 1)) row = subst (λ x. Next (at acc (length acc - 1)) x) (ap (at rs) k ∙ here) (subst (λ x. Next x (at rs (length acc - 1 + 1))) old j) in
          or_right (eqb (length acc) 0) (follows (at acc (length acc - 1)) row) (follows_from (at acc (length acc - 1)) row next.0 next.1)
      | inr g ↦ or_left (eqb (length acc) 0) (follows (at acc (length acc - 1)) row) (eq-eqb _ _ (omega arith))
    ] in
    and_from (inside u row) (eqb (length acc) 0 || follows (at acc (length acc - 1)) row) in_window before
