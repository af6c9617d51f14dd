-- The search for the row in force, place by place. Assumes nothing.
use Rattle.std.proofs.Common.{◌≡◌, ℕ, zero, suc, ◌+◌, ◌<◌, ◌≤◌, List, [], ◌∷◌, length, get_or, drop, ℤ, ◌≤ℤ◌, ◌<ℤ◌, fold, sym, refl, ◌∙◌, arith}
use lib.Signed.{le_z}
use Rattle.std.proofs.lemmas.List.{at_drop_more, at_drop_all}
use Rattle.std.proofs.lemmas.Int.{ints, by_lt_z}
use Rattle.std.proofs.lemmas.Bool.{cond_both}
use Rattle.zone.specs.declared.rows.Interval.{Interval}
use Rattle.zone.specs.declared.rows.Row.{Row}
use Rattle.zone.specs.Rows.{at, no_row}
use Rattle.cutting.specs.Cutting.{later, in_force}
use Rattle.cutting.specs.Laws.{InForceAt, SomeInForce}
use Rattle.cutting.proofs.Chains.{Run, run_of}
use Rattle.cutting.proofs.Clipping.{step_taken, step_left, instant_parts}

-- what is left of the rows after i gives the row in force, from the one at hand
abbrev pub Seen : List Row → ℤ → Row → ℕ → Type 0
Seen rows t r i = fold (later t) r (drop i rows) ≡ in_force rows t

pub seen_none : (rows : List Row) (t : ℤ) → 0 < length rows → Seen rows t (get_or rows 0 no_row) 0
seen_none [] t h = absurd (omega arith)
seen_none (r ∷ rs) t h = cond_both (le_z r.onset t) r r (λ x. fold (later t) x rs ≡ fold (later t) r rs) (λ _. refl) (λ _. refl)

pub seen_taken : (rows : List Row) (t : ℤ) (r : Row) (i : ℕ) → i < length rows → (get_or rows i no_row).onset ≤ℤ t → Seen rows t r i → Seen rows t (get_or rows i no_row) (i + 1)
seen_taken rows t r i l h s = sym (step_taken t r (get_or rows i no_row) (drop (i + 1) rows) h) ∙ sym (at_drop_more (fold (later t) r) rows i no_row l) ∙ s

pub seen_left : (rows : List Row) (t : ℤ) (r : Row) (i : ℕ) → i < length rows → t <ℤ (get_or rows i no_row).onset → Seen rows t r i → Seen rows t r (i + 1)
seen_left rows t r i l h s = sym (step_left t r (get_or rows i no_row) (drop (i + 1) rows) h) ∙ sym (at_drop_more (fold (later t) r) rows i no_row l) ∙ s

pub seen_all : (rows : List Row) (t : ℤ) (r : Row) (i : ℕ) → length rows ≤ i → Seen rows t r i → r ≡ in_force rows t
seen_all rows t r i h s = sym (at_drop_all (fold (later t) r) rows i h) ∙ s

-- the row in force at t, by its place
found_here : (r : Row) (t : ℤ) → r.onset ≤ℤ t → (k : ℕ) × InForceAt (r ∷ []) t k
found_here r t h = (0, record { place = omega arith; row = refl; begun = h; latest = λ j l m. absurd (omega arith) })

-- a row more in front, and the row in force is further on
found_next : (r x : Row) (xs : List Row) (t : ℤ) (k : ℕ) → x.onset ≤ℤ t → InForceAt (x ∷ xs) t k → InForceAt (r ∷ x ∷ xs) t (suc k)
found_next r x xs t k h f = record { place = omega (arith, f.place); row = step_taken t r x xs h ∙ f.row; begun = f.begun; latest = on }
  where
    on : (j : ℕ) → suc k < j → j < suc (suc (length xs)) → t <ℤ (at (r ∷ x ∷ xs) j).onset
    on zero l m = absurd (omega arith)
    on (suc j) l m = f.latest j (omega arith) (omega arith)

-- a row in between that has not begun
found_past : (r x : Row) (xs : List Row) (t : ℤ) (k : ℕ) → t <ℤ x.onset → InForceAt (r ∷ xs) t k → (k2 : ℕ) × InForceAt (r ∷ x ∷ xs) t k2
found_past r x xs t zero h f = (0, record { place = omega arith; row = step_left t r x xs h ∙ f.row; begun = f.begun; latest = on })
  where
    on : (j : ℕ) → 0 < j → j < suc (suc (length xs)) → t <ℤ (at (r ∷ x ∷ xs) j).onset
    on zero l m = absurd (omega arith)
    on (suc zero) l m = h
    on (suc (suc j)) l m = f.latest (suc j) (omega arith) (omega arith)
found_past r x xs t (suc k) h f = (suc (suc k), record { place = omega (arith, f.place); row = step_left t r x xs h ∙ f.row; begun = f.begun; latest = on })
  where
    on : (j : ℕ) → suc (suc k) < j → j < suc (suc (length xs)) → t <ℤ (at (r ∷ x ∷ xs) j).onset
    on zero l m = absurd (omega arith)
    on (suc zero) l m = absurd (omega arith)
    on (suc (suc j)) l m = f.latest (suc j) (omega arith) (omega arith)

found : (r : Row) (xs : List Row) (t : ℤ) → r.onset ≤ℤ t → (k : ℕ) × InForceAt (r ∷ xs) t k
found r [] t h = found_here r t h
found r (x ∷ xs) t h =
    by_lt_z t x.onset
    (λ l. let f = found r xs t h in found_past r x xs t f.0 l f.1)
    (λ l. let f = found x xs t l in (suc f.0, found_next r x xs t f.0 l f.1))

begun_first : (i : Interval) (rows : List Row) (t : ℤ) → Run rows i.start i.end → i.start ≤ℤ t → (k : ℕ) × InForceAt rows t k
begun_first i [] t r h = absurd r
begun_first i (r ∷ rs) t c h = found r rs t (omega (arith, ints, c.0))

pub some_in_force : SomeInForce
some_in_force i rows t c h = begun_first i rows t (run_of i rows c) (instant_parts i t h).0
