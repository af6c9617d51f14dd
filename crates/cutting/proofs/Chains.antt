-- Rows that cover an interval, row after row, and the bridge to the facts by places. Assumes nothing.
use Rattle.std.proofs.Common.{◌≡◌, ℕ, zero, suc, ◌+◌, ◌-◌, List, [], ◌∷◌, length, ℤ, ◌<ℤ◌, sym, ap, subst, add-one, arith}
use Rattle.std.specs.List.{AllByRecursion as All}
use Rattle.std.proofs.ByRecursion.{All-get_or, All-from_get_or}
use Rattle.zone.specs.declared.rows.Interval.{Interval}
use Rattle.zone.specs.declared.rows.Row.{Row}
use Rattle.zone.specs.Rows.{no_row, at, Offset, Begins, Joined, Ends, Small, Covers}

-- the rows xs come after r: onsets rise, each row takes its `from` over from the row before, and the last begins before e
abbrev pub Chain : Row → List Row → ℤ → Type 0
Chain r [] e = r.onset <ℤ e
Chain r (x ∷ xs) e = (r.onset <ℤ x.onset) × (x.from ≡ r.to) × Chain x xs e

-- the rows from s to e: the first begins at s
abbrev pub Run : List Row → ℤ → ℤ → Type 0
Run [] s e = ⊥
Run (r ∷ rs) s e = (r.onset ≡ s) × Chain r rs e

abbrev pub Offsets : List Row → Type 0
Offsets rows = All (λ r. Offset r.from × Offset r.to) rows

abbrev Link : Row → Row → Type 0
Link r x = (r.onset <ℤ x.onset) × (x.from ≡ r.to)

at_more : (r : Row) (xs : List Row) (k : ℕ) → at (r ∷ xs) (k + 1) ≡ at xs k
at_more r xs k = ap (at (r ∷ xs)) (add-one k)

last_more : (r x : Row) (xs : List Row) → at (r ∷ x ∷ xs) (length (r ∷ x ∷ xs) - 1) ≡ at (x ∷ xs) (length (x ∷ xs) - 1)
last_more r x xs =
    let e : length (r ∷ x ∷ xs) - 1 ≡ suc (length (x ∷ xs) - 1) = omega arith in
    ap (at (r ∷ x ∷ xs)) e

chain_from : (r : Row) (xs : List Row) (e : ℤ) → Joined (r ∷ xs) → Ends e (r ∷ xs) → Chain r xs e
chain_from r [] e j h = h
chain_from r (x ∷ xs) e j h =
    let l = j 0 (omega arith) in
    (l.0, l.1, chain_from x xs e (λ k m. let n = j (k + 1) (omega arith) in subst (λ a. Link a (at (x ∷ xs) (k + 1))) (at_more r (x ∷ xs) k) (subst (λ a. Link (at (r ∷ x ∷ xs) (k + 1)) a) (at_more r (x ∷ xs) (k + 1)) n)) (subst (λ a. a.onset <ℤ e) (last_more r x xs) h))

pub run_from : (rows : List Row) (s e : ℤ) → Begins s rows → Joined rows → Ends e rows → Run rows s e
run_from [] s e b j h = absurd (omega arith)
run_from (r ∷ rs) s e b j h = (b.1, chain_from r rs e j h)

joined_from : (r : Row) (xs : List Row) (e : ℤ) → Chain r xs e → Joined (r ∷ xs)
joined_from r [] e c k m = absurd (omega arith)
joined_from r (x ∷ xs) e c zero m = (c.0, c.1)
joined_from r (x ∷ xs) e c (suc k) m =
    let n = joined_from x xs e c.2 k (omega arith) in
    subst (λ a. Link (at (x ∷ xs) k) a) (sym (at_more r (x ∷ xs) (suc k))) (subst (λ a. Link (at (x ∷ xs) k) (at (x ∷ xs) a)) (add-one k) n)

ends_from : (r : Row) (xs : List Row) (e : ℤ) → Chain r xs e → Ends e (r ∷ xs)
ends_from r [] e c = c
ends_from r (x ∷ xs) e c = subst (λ a. a.onset <ℤ e) (sym (last_more r x xs)) (ends_from x xs e c.2)

pub facts_from : (rows : List Row) (s e : ℤ) → Run rows s e → Begins s rows × Joined rows × Ends e rows
facts_from [] s e c = absurd c
facts_from (r ∷ rs) s e c = ((omega arith, c.0), joined_from r rs e c.1, ends_from r rs e c.1)

pub offsets_from : (rows : List Row) → Small rows → Offsets rows
offsets_from rows h = All-from_get_or (λ r. Offset r.from × Offset r.to) rows no_row h

pub small_from : (rows : List Row) → Offsets rows → Small rows
small_from rows h k l = All-get_or (λ r. Offset r.from × Offset r.to) rows k no_row l h

-- a cover is a run with offsets in range
pub run_of : (i : Interval) (rows : List Row) → Covers i rows → Run rows i.start i.end
run_of i rows c = run_from rows i.start i.end c.begins c.joined c.ends

pub covers_of : (i : Interval) (rows : List Row) → Run rows i.start i.end → Offsets rows → Covers i rows
covers_of i rows r o =
    let f = facts_from rows i.start i.end r in
    record { begins = f.0; joined = f.1; ends = f.2; small = small_from rows o }
