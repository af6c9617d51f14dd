-- The cut of rows to the interval that they cover. Assumes nothing.
use Rattle.std.proofs.Common.{◌≡◌, false, List, [], ◌∷◌, ℤ, ◌≤ℤ◌, ◌<ℤ◌, filter, sym, refl, ap, arith}
use lib.Signed.{lt_z}
use Rattle.std.proofs.lemmas.Int.{ints}
use Rattle.zone.specs.declared.rows.Interval.{Interval}
use Rattle.zone.specs.declared.rows.Row.{Row}
use Rattle.zone.specs.Rows.{Covers}
use Rattle.cutting.specs.Cutting.{later, opening}
use Rattle.cutting.specs.Cutting as the
use Rattle.cutting.proofs.Chains.{Chain, Run, run_of}
use Rattle.cutting.proofs.Clipping.{inside, cut, after_chain, in_force_after, head_dropped}

-- the rows of a chain begin before its end
begun_before : (e : ℤ) (r : Row) (xs : List Row) → Chain r xs e → r.onset <ℤ e
begun_before e r [] c = c
begun_before e r (x ∷ xs) c = let h = begun_before e x xs c.2 in omega (arith, ints, c.0)

-- all rows of a chain begin inside
kept_chain : (s e : ℤ) (r : Row) (xs : List Row) → s ≤ℤ r.onset → Chain r xs e → filter (inside s e) xs ≡ xs
kept_chain s e r [] h c = refl
kept_chain s e r (x ∷ xs) h c =
    let m : s <ℤ x.onset = omega (arith, ints, c.0) in
    let l : s ≤ℤ x.onset = omega (arith, ints, c.0) in
    let b = begun_before e x xs c.2 in
    let ih = kept_chain s e x xs l c.2 in
    grind (arith, ints)

opened_first : (s : ℤ) (r : Row) → r.onset ≡ s → opening s r ≡ r
opened_first s r q =
    let n : lt_z r.onset s ≡ false = grind (arith, ints) in
    let first : ℤ → Row = λ o. record { onset = o; from = r.from; to = r.to; observance = r.observance } in
    rw n (ap first (sym q))

cut_run_whole : (rows : List Row) (s e : ℤ) → Run rows s e → cut rows s e ≡ rows
cut_run_whole [] s e c = absurd c
cut_run_whole (r ∷ xs) s e c =
    let l : s ≤ℤ r.onset = omega (arith, ints, c.0) in
    let m : r.onset ≤ℤ s = omega (arith, ints, c.0) in
    rw (in_force_after s r xs (after_chain s e r xs l c.1), opened_first s r c.0, head_dropped s e r xs m, kept_chain s e r xs l c.1)

-- rows that cover an interval are their own cut to it
pub cut_whole : (i : Interval) (rows : List Row) → Covers i rows → the.cut rows i ≡ rows
cut_whole i rows c = cut_run_whole rows i.start i.end (run_of i rows c)
