-- What the tags of a log in order come to, as far as the proof of a law needs it, which names no lemma of proofs/. Assumes nothing.
use Rattle.std.specs.Prelude.{◌≡◌, ℕ, zero, suc, ◌+◌, ◌<◌, ◌≤◌, cond, ◌⊎◌, List, length, take, Some, None, Option}
use Rattle.std.proofs.Math.Path.{refl, sym, ap}
use Rattle.std.proofs.Common.{◌∙◌}
use Rattle.std.proofs.Math.Logic.{inl, inr}
use native.Mathlib.Omega.{arith}
use Rattle.std.proofs.lemmas.List.{length-take-le}
use Rattle.std.proofs.lemmas.Bool.{cases_Bool}
use Rattle.zone.specs.Comparing.{same_rows}
use Rattle.zone.proofs.Compared.{decides_rows, rows_agree}
use Rattle.root.specs.Laws.{LastBefore}
use Rattle.root.specs.Logs.{Publication, at, latest, tag_after}
use Rattle.root.specs.Order.{InOrder}
use Rattle.root.specs.Latest.{latest_last, latest_found}

cases_order : (a b : ℕ) → a ≤ b → (a < b) ⊎ (a ≡ b)
cases_order a b x = grind arith

either_way : (a b : ℕ) → (a ≤ b) ⊎ (b ≤ a)
either_way a b = grind arith

module _ (log : List Publication) (order : InOrder log) where
  pub tag_is : (k : ℕ) → k < length log → (o : Option Publication) → latest (at log k).name (take k log) ≡ o → (at log k).tag ≡ tag_after (k + 1) (at log k).rows o
  tag_is k l o q =
      order.tags k l ∙ (ap (λ x. tag_after (x + 1) (at log k).rows (latest (at log k).name (take k log))) (length-take-le k log (omega arith)) ∙ ap (tag_after (k + 1) (at log k).rows) q)

  pub tag_same : (k j : ℕ) → k < length log → LastBefore log (at log k).name k j → (at log j).rows ≡ (at log k).rows → (at log k).tag ≡ (at log j).tag
  tag_same k j l b q =
      tag_is k l (Some (at log j)) (latest_last log (at log k).name j k (omega arith) b) ∙ ap (λ x. cond x (at log j).tag (k + 1)) (rows_agree (at log j).rows (at log k).rows q)

  -- a tag is the publication's number, or that of an earlier publication of the same name and rows
  Older : ℕ → ℕ → Type 0
  Older k j = (j < k) × ((at log j).name ≡ (at log k).name) × ((at log j).rows ≡ (at log k).rows) × ((at log k).tag ≡ (at log j).tag)

  tag_ways : (k : ℕ) → k < length log → ((at log k).tag ≡ k + 1) ⊎ ((j : ℕ) × Older k j)
  unfolding Older
  tag_ways k l = found (latest (at log k).name (take k log)) refl
    where
      found : (o : Option Publication) → latest (at log k).name (take k log) ≡ o → ((at log k).tag ≡ k + 1) ⊎ ((j : ℕ) × Older k j)
      found None q = inl (tag_is k l None q)
      found (Some p) q =
          let f = latest_found log (at log k).name k p (omega arith) q in
          let j = f.0 in
          elim (cases_Bool (same_rows (at log j).rows (at log k).rows)) [ inl y ↦ inr (j, (f.1.earlier, f.1.name, (decides_rows (at log j).rows (at log k).rows).0 y, tag_same k j l f.1 ((decides_rows (at log j).rows (at log k).rows).0 y))) | inr n ↦ inl (tag_is k l (Some (at log j)) (latest_last log (at log k).name j k (omega arith) f.1) ∙ ap (λ x. cond x (at log j).tag (k + 1)) n) ]

  within_below : (m k : ℕ) → k < m → k < length log → (1 ≤ (at log k).tag) × ((at log k).tag ≤ k + 1)
  unfolding Older
  within_below zero k h l = absurd (omega arith)
  within_below (suc m) k h l = elim (tag_ways k l) [ inl q ↦ (omega arith, omega arith) | inr o ↦ let w = within_below m o.0 (omega (arith, o.1.0)) (omega (arith, o.1.0)) in (omega (arith, w.0, o.1.3), omega (arith, w.1, o.1.0, o.1.3)) ]

  pub tag_within : (k : ℕ) → k < length log → (1 ≤ (at log k).tag) × ((at log k).tag ≤ k + 1)
  tag_within k l = within_below (suc k) k (omega arith) l

  One : ℕ → ℕ → Type 0
  One k j = (at log k).name ≡ (at log j).name → (at log k).tag ≡ (at log j).tag → (at log k).rows ≡ (at log j).rows

  own_table : (k j : ℕ) → j ≤ k → k < length log → (at log k).tag ≡ k + 1 → One k j
  unfolding One
  own_table k j h l q n t = elim (cases_order j k h) [ inl x ↦ absurd (let w = tag_within j (omega arith) in omega (arith, w.1)) | inr x ↦ ap (λ y. (at log y).rows) (sym x) ]

  older_table : (k j p : ℕ) → j ≤ k → Older k p → (j ≤ p → One p j) → (p ≤ j → j < k → One j p) → One k j
  unfolding One Older
  older_table k j p h o f g n t = elim (cases_order j k h) [ inl x ↦ below x | inr x ↦ ap (λ y. (at log y).rows) (sym x) ]
    where
      below : j < k → (at log k).rows ≡ (at log j).rows
      below x =
          let names : (at log p).name ≡ (at log j).name = o.1 ∙ n in
          let tags : (at log p).tag ≡ (at log j).tag = sym o.3 ∙ t in
          sym o.2 ∙ elim (either_way j p) [ inl y ↦ f y names tags | inr y ↦ sym (g y x (sym names) (sym tags)) ]

  -- by the larger of two places
  one_below : (m k j : ℕ) → j ≤ k → k < m → k < length log → One k j
  unfolding Older
  one_below zero k j h i l = absurd (omega arith)
  one_below (suc m) k j h i l = elim (tag_ways k l) [ inl q ↦ own_table k j h l q | inr o ↦ older_table k j o.0 h o.1 (λ y. one_below m o.0 j y (omega (arith, o.1.0)) (omega (arith, o.1.0))) (λ y x. one_below m j o.0 y (omega arith) (omega arith)) ]

  pub tag_one_table : (k j : ℕ) → k < length log → j < length log → (at log k).name ≡ (at log j).name → (at log k).tag ≡ (at log j).tag → (at log k).rows ≡ (at log j).rows
  unfolding One
  tag_one_table k j l i n t = elim (either_way j k) [ inl y ↦ one_below (suc k) k j y (omega arith) l n t | inr y ↦ sym (one_below (suc j) j k y (omega arith) i (sym n) (sym t)) ]
