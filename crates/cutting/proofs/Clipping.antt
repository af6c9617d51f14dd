-- The row in force in a cut, and what follows for cuts. Assumes nothing.
use Rattle.std.proofs.Common.{◌≡◌, ◌≤◌, Bool, true, false, cond, ◌&&◌, List, [], ◌∷◌, length, ℤ, ◌≤ℤ◌, ◌<ℤ◌, fold, filter, sym, refl, ap, ◌∙◌, arith}
use lib.Signed.{lt_z, le_z}
use Rattle.std.proofs.lemmas.Int.{ints, by_lt_z}
use Rattle.std.specs.List.{AllByRecursion as All}
use Rattle.std.proofs.lemmas.Bool.{cond_both, and_parts, and_from}
use Rattle.std.proofs.ByRecursion.{all_kept_by}
use Rattle.std.proofs.lemmas.List.Sums.{length-filter, count_by-le-length}
use Rattle.zone.specs.declared.rows.Interval.{Interval}
use Rattle.zone.specs.declared.rows.Row.{Row}
use Rattle.zone.specs.Intervals.{within, has_instant}
use Rattle.zone.specs.Rows.{Covers, Offset}
use Rattle.cutting.specs.Cutting.{later, in_force, opening, begins_inside, by_row, local}
use Rattle.cutting.specs.Cutting as the
use Rattle.cutting.specs.Laws.{CutsAgree}
use Rattle.cutting.proofs.Chains.{Chain, Run, Offsets, run_of, covers_of, offsets_from}

-- the same, by the two ends of the interval
abbrev pub inside : ℤ → ℤ → Row → Bool
inside s e = begins_inside (record { start = s; end = e })

abbrev pub cut : List Row → ℤ → ℤ → List Row
cut rows s e = the.cut rows (record { start = s; end = e })

-- a row of the table, as it stands in the cut at s
abbrev pub clip : ℤ → Row → Row
clip s r = cond (lt_z s r.onset) r (opening s r)

-- the tests, decided
lt_yes : (a b : ℤ) → a <ℤ b → lt_z a b ≡ true
lt_yes a b h = grind (arith, ints)

lt_no : (a b : ℤ) → b ≤ℤ a → lt_z a b ≡ false
lt_no a b h = grind (arith, ints)

le_yes : (a b : ℤ) → a ≤ℤ b → le_z a b ≡ true
le_yes a b h = grind (arith, ints)

le_no : (a b : ℤ) → b <ℤ a → le_z a b ≡ false
le_no a b h = grind (arith, ints)

pub lt_true : (a b : ℤ) → lt_z a b ≡ true → a <ℤ b
lt_true a b h = grind (arith, ints)

pub le_true : (a b : ℤ) → le_z a b ≡ true → a ≤ℤ b
le_true a b h = grind (arith, ints)

-- all rows of a chain begin after its head
abbrev pub After : ℤ → List Row → Type 0
After s [] = Unit {0}
After s (x ∷ xs) = (s <ℤ x.onset) × After s xs

pub after_chain : (s e : ℤ) (r : Row) (xs : List Row) → s ≤ℤ r.onset → Chain r xs e → After s xs
after_chain s e r [] h c = tt
after_chain s e r (x ∷ xs) h c =
    let k : s <ℤ x.onset = omega (arith, ints) in let k2 : s ≤ℤ x.onset = omega (arith, ints) in (k, after_chain s e x xs k2 c.2)

-- past s the row in force at s does not change
pub in_force_after : (s : ℤ) (r : Row) (xs : List Row) → After s xs → fold (later s) r xs ≡ r
in_force_after s r [] h = refl
in_force_after s r (x ∷ xs) h = rw (le_no x.onset s h.0) (in_force_after s r xs h.1)

opening_clip : (s : ℤ) (r : Row) → r.onset ≤ℤ s → opening s r ≡ clip s r
opening_clip s r h = rw (lt_no s r.onset h)

clip_later : (s : ℤ) (x : Row) → s <ℤ x.onset → clip s x ≡ x
clip_later s x h = rw (lt_yes s x.onset h)

pub in_force_kept : (s e t : ℤ) (a : Row) (xs : List Row) → After s xs → t <ℤ e → fold (later t) (clip s a) (filter (inside s e) xs) ≡ clip s (fold (later t) a xs)
in_force_kept s e t a [] h k = refl
in_force_kept s e t a (x ∷ xs) h k =
    let stays = in_force_kept s e t a xs h.1 k in
    let takes = in_force_kept s e t x xs h.1 k in
    let c = clip_later s x h.0 in
    grind (arith, ints)

-- the row in force in the cut is the table's, clipped
pub in_force_opened : (s e t b : ℤ) (r : Row) (xs : List Row) → Chain r xs b → r.onset ≤ℤ s → s ≤ℤ t → t <ℤ e → fold (later t) (opening s (fold (later s) r xs)) (filter (inside s e) xs) ≡ clip s (fold (later t) r xs)
in_force_opened s e t b r [] c h k l = opening_clip s r h
in_force_opened s e t b r (x ∷ xs) c h k l = by_lt_z s x.onset (after c h k l) (λ (m : x.onset ≤ℤ s). let ih = in_force_opened s e t b x xs c.2 m k l in grind (arith, ints))
  where
    after : Chain r (x ∷ xs) b → r.onset ≤ℤ s → s ≤ℤ t → t <ℤ e → s <ℤ x.onset → fold (later t) (opening s (fold (later s) r (x ∷ xs))) (filter (inside s e) (x ∷ xs)) ≡ clip s (fold (later t) r (x ∷ xs))
    after c h k l m =
        let f : After s (x ∷ xs) = (m, after_chain s b x xs (omega (arith, ints)) c.2) in
        rw (in_force_after s r (x ∷ xs) f, opening_clip s r h) (in_force_kept s e t r (x ∷ xs) f l)

-- the head of a table that covers [a, b) has begun by s
pub head_dropped : (s e : ℤ) (r : Row) (xs : List Row) → r.onset ≤ℤ s → filter (inside s e) (r ∷ xs) ≡ filter (inside s e) xs
head_dropped s e r xs h = rw (lt_no s r.onset h)

pub in_force_cut : (rows : List Row) (a b s e t : ℤ) → Run rows a b → a ≤ℤ s → s ≤ℤ t → t <ℤ e → in_force (cut rows s e) t ≡ clip s (in_force rows t)
in_force_cut [] a b s e t c h k l = absurd c
in_force_cut (r ∷ xs) a b s e t c h k l =
    let m : r.onset ≤ℤ s = omega (arith, ints) in
    rw (head_dropped s e r xs m) (in_force_opened s e t b r xs c.1 m k l)

-- one step of the search for the row in force
pub step_taken : (t : ℤ) (r x : Row) (xs : List Row) → x.onset ≤ℤ t → fold (later t) r (x ∷ xs) ≡ fold (later t) x xs
step_taken t r x xs h = rw (le_yes x.onset t h)

pub step_left : (t : ℤ) (r x : Row) (xs : List Row) → t <ℤ x.onset → fold (later t) r (x ∷ xs) ≡ fold (later t) r xs
step_left t r x xs h = rw (le_no x.onset t h)

-- the row in force at t has begun by then
pub in_force_begun : (t : ℤ) (r : Row) (xs : List Row) → r.onset ≤ℤ t → (fold (later t) r xs).onset ≤ℤ t
in_force_begun t r [] h = h
in_force_begun t r (x ∷ xs) h = by_lt_z t x.onset (λ l. rw (step_left t r x xs l) (in_force_begun t r xs h)) (λ l. rw (step_taken t r x xs l) (in_force_begun t x xs l))

-- a chain, cut down to what begins inside of (s, e)
none_kept : (s e b : ℤ) (r : Row) (xs : List Row) → Chain r xs b → e ≤ℤ r.onset → filter (inside s e) xs ≡ []
none_kept s e b r [] c h = refl
none_kept s e b r (x ∷ xs) c h =
    let k : e ≤ℤ x.onset = omega (arith, ints) in
    let ih = none_kept s e b x xs c.2 k in
    grind (arith, ints)

chain_kept : (s e b : ℤ) (r q : Row) (xs : List Row) → Chain r xs b → After s xs → q.to ≡ r.to → q.onset <ℤ e → After q.onset xs → Chain q (filter (inside s e) xs) e
chain_kept s e b r q [] c f o h g = h
chain_kept s e b r q (x ∷ xs) c f o h g = rw (lt_yes s x.onset f.0) (by_lt_z x.onset e
    (λ l. rw (lt_yes x.onset e l) (g.0, c.1 ∙ sym o, chain_kept s e b x x xs c.2 f.1 refl l (after_chain x.onset b x xs (omega (arith, ints)) c.2)))
    (λ l. rw (lt_no x.onset e l, none_kept s e b x xs c.2 l) h))

pub chain_opened : (s e b : ℤ) (r : Row) (xs : List Row) → Chain r xs b → r.onset ≤ℤ s → s <ℤ e → Chain (opening s (fold (later s) r xs)) (filter (inside s e) xs) e
chain_opened s e b r [] c h l = l
chain_opened s e b r (x ∷ xs) c h l = by_lt_z s x.onset (after c) (λ m. rw (step_taken s r x xs m, head_dropped s e x xs m) (chain_opened s e b x xs c.2 m l))
  where
    after : Chain r (x ∷ xs) b → s <ℤ x.onset → Chain (opening s (fold (later s) r (x ∷ xs))) (filter (inside s e) (x ∷ xs)) e
    after c m =
        let f : After s (x ∷ xs) = (m, after_chain s b x xs (omega (arith, ints)) c.2) in
        rw (in_force_after s r (x ∷ xs) f) (chain_kept s e b r (opening s r) (x ∷ xs) c f refl l f)

pub cut_run : (rows : List Row) (a b s e : ℤ) → Run rows a b → a ≤ℤ s → s <ℤ e → Run (cut rows s e) s e
cut_run [] a b s e c h l = absurd c
cut_run (r ∷ xs) a b s e c h l =
    let m : r.onset ≤ℤ s = omega (arith, ints) in
    rw (head_dropped s e r xs m) (refl, chain_opened s e b r xs c.1 m l)

-- what the inner interval keeps of the outer's rows, it keeps of all
pub kept_kept : (s e s2 e2 : ℤ) (xs : List Row) → s ≤ℤ s2 → e2 ≤ℤ e → filter (inside s2 e2) (filter (inside s e) xs) ≡ filter (inside s2 e2) xs
kept_kept s e s2 e2 [] h k = refl
kept_kept s e s2 e2 (x ∷ xs) h k = let ih = kept_kept s e s2 e2 xs h k in grind (arith, ints)

opening_twice : (s s2 : ℤ) (r : Row) → s ≤ℤ s2 → r.onset ≤ℤ s2 → opening s2 (clip s r) ≡ opening s2 r
opening_twice s s2 r h k = grind (arith, ints)

pub cut_cut : (rows : List Row) (a b s e s2 e2 : ℤ) → Run rows a b → a ≤ℤ s → s ≤ℤ s2 → s2 <ℤ e2 → e2 ≤ℤ e → cut (cut rows s e) s2 e2 ≡ cut rows s2 e2
cut_cut [] a b s e s2 e2 c h k l m = absurd c
cut_cut (r ∷ xs) a b s e s2 e2 c h k l m =
    let begun : (in_force (r ∷ xs) s2).onset ≤ℤ s2 = in_force_begun s2 r xs (omega (arith, ints)) in
    let first : opening s2 (in_force (cut (r ∷ xs) s e) s2) ≡ opening s2 (in_force (r ∷ xs) s2) = ap (opening s2) (in_force_cut (r ∷ xs) a b s e s2 c h k (omega (arith, ints))) ∙ opening_twice s s2 (in_force (r ∷ xs) s2) k begun in
    let rest : filter (inside s2 e2) (cut (r ∷ xs) s e) ≡ filter (inside s2 e2) (r ∷ xs) = head_dropped s2 e2 (opening s (in_force (r ∷ xs) s)) (filter (inside s e) (r ∷ xs)) k ∙ kept_kept s e s2 e2 (r ∷ xs) k m in
    cc

-- what holds of every row holds of the one in force
pub in_force_all : (P : Row → Type 0) (t : ℤ) (r : Row) (xs : List Row) → P r → All P xs → P (fold (later t) r xs)
in_force_all P t r [] p ps = p
in_force_all P t r (x ∷ xs) p ps = in_force_all P t (later t r x) xs (cond_both (le_z x.onset t) x r P (λ _. ps.0) (λ _. p)) ps.1

pub cut_offsets : (rows : List Row) (a b s e : ℤ) → Run rows a b → Offsets rows → Offsets (cut rows s e)
cut_offsets [] a b s e c o = absurd c
cut_offsets (r ∷ xs) a b s e c o =
    let f = in_force_all (λ (x : Row). Offset x.from × Offset x.to) s r xs o.0 o.1 in
    let i : Row = in_force (r ∷ xs) s in
    ((cond_both (lt_z i.onset s) i.to i.from Offset (λ _. f.1) (λ _. f.0), f.1), all_kept_by (inside s e) (λ x. Offset x.from × Offset x.to) (r ∷ xs) o)

-- what a test of intervals says
pub within_parts : (i o : Interval) → within i o ≡ true → (o.start ≤ℤ i.start) × (i.start <ℤ i.end) × (i.end ≤ℤ o.end)
within_parts i o h =
    let a = and_parts (le_z o.start i.start) (lt_z i.start i.end && le_z i.end o.end) h in
    let b = and_parts (lt_z i.start i.end) (le_z i.end o.end) a.1 in
    (le_true o.start i.start a.0, lt_true i.start i.end b.0, le_true i.end o.end b.1)

pub instant_parts : (i : Interval) (t : ℤ) → has_instant i t ≡ true → (i.start ≤ℤ t) × (t <ℤ i.end)
instant_parts i t h =
    let a = and_parts (le_z i.start t) (lt_z t i.end) h in
    (le_true i.start t a.0, lt_true t i.end a.1)

by_clip : (s t : ℤ) (r : Row) → by_row (clip s r) t ≡ by_row r t
by_clip s t r = cond_both (lt_z s r.onset) r (opening s r) (λ x. by_row x t ≡ by_row r t) (λ _. refl) (λ _. refl)

-- the row in force at the start stands for one that began before
pub cut_short : (rows : List Row) (a b s e : ℤ) → Run rows a b → a ≤ℤ s → length (cut rows s e) ≤ length rows
cut_short [] a b s e c h = absurd c
cut_short (r ∷ xs) a b s e c h =
    let m : r.onset ≤ℤ s = omega (arith, ints) in
    let d = ap length (head_dropped s e r xs m) in
    omega (arith, d, length-filter (inside s e) xs, count_by-le-length (inside s e) xs)

pub cuts_agree : CutsAgree
cuts_agree of rows to c w =
    let r = run_of of rows c in
    let p = within_parts to of w in
    record {
      covers = covers_of to (the.cut rows to) (cut_run rows of.start of.end to.start to.end r p.0 p.1) (cut_offsets rows of.start of.end to.start to.end r (offsets_from rows c.small));
      same = λ t h. let q = instant_parts to t h in ap (λ r. by_row r t) (in_force_cut rows of.start of.end to.start to.end t r p.0 q.0 q.1) ∙ by_clip to.start t (in_force rows t);
      short = cut_short rows of.start of.end to.start to.end r p.0;
      again = λ inner h. let q = within_parts inner to h in cut_cut rows of.start of.end to.start to.end inner.start inner.end r p.0 q.0 q.1 q.2;
    }

-- an interval that rises lies in itself
pub within_itself : (i o : Interval) → within i o ≡ true → within i i ≡ true
within_itself i o h = let p = within_parts i o h in grind (arith, ints)

-- an interval inside of one inside
pub within_trans : (i o p : Interval) → within i o ≡ true → within o p ≡ true → within i p ≡ true
within_trans i o p h k =
    let a = within_parts i o h in
    let b = within_parts o p k in
    and_from (le_z p.start i.start) (lt_z i.start i.end && le_z i.end p.end) (le_yes p.start i.start (omega (arith, ints, a, b)))
    (and_from (lt_z i.start i.end) (le_z i.end p.end) (lt_yes i.start i.end a.1) (le_yes i.end p.end (omega (arith, ints, a, b))))

-- an instant of an interval inside
pub instant_within : (i o : Interval) (t : ℤ) → within i o ≡ true → has_instant i t ≡ true → has_instant o t ≡ true
instant_within i o t h k =
    let a = within_parts i o h in
    let b = instant_parts i t k in
    and_from (le_z o.start t) (lt_z t o.end) (le_yes o.start t (omega (arith, ints, a, b))) (lt_yes t o.end (omega (arith, ints, a, b)))

-- the row in force has offsets in range
pub in_force_small : (i : Interval) (rows : List Row) (t : ℤ) → Covers i rows → Offset (in_force rows t).to
in_force_small i rows t c = go rows (run_of i rows c) (offsets_from rows c.small)
  where
    go : (xs : List Row) → Run xs i.start i.end → Offsets xs → Offset (in_force xs t).to
    go [] r o = absurd r
    go (x ∷ xs) r o = (in_force_all (λ (y : Row). Offset y.from × Offset y.to) t x xs o.0 o.1).1
