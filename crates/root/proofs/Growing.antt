-- One publication more in a log. Assumes nothing.
use Rattle.std.specs.Prelude.{◌≡◌, ℕ, ◌+◌, ◌<◌, ◌≤◌, true, ◌⊎◌, List, [], ◌∷◌, length, take, Some, None, ◌≢◌, refl}
use Rattle.std.proofs.Common.{sym, ap, subst, ◌∙◌, inl, inr, arith}
use Rattle.std.specs.Option.{option_map}
use Rattle.std.proofs.lemmas.List.{length_push, get_or_push, get_or_append_left, take-append-le, take_all}
use Rattle.std.proofs.lemmas.List.Sums.{fold_push}
use Rattle.names.specs.declared.name.Name.{Name}
use Rattle.zone.specs.declared.rows.Row.{Row}
use Rattle.zone.specs.Intervals.{era}
use Rattle.names.specs.Names.{is_name}
use Rattle.zone.specs.Rows.{Sound, table_rows}
use Rattle.root.specs.Logs.{Publication, at, nothing, newer, latest, page, pages, tag_for, add}
use Rattle.root.specs.Order.{InOrder}
use Rattle.root.specs.Latest.{newer_yes, newer_no, pages_in}

module _ (log : List Publication) (n : Name) (rows : List Row) where
  abbrev new : Publication
  new = record { name = n; tag = tag_for log n rows; rows = rows }

  pub pages_kept : (e : ℕ) (m : Name) → e ≤ length log → pages (add log n rows) e m ≡ pages log e m
  pages_kept e m l =
      let k : e ≤ length (add log n rows) = omega (arith, length_push log new) in
      pages_in (add log n rows) e m k ∙ (ap (λ xs. option_map page (latest m xs)) (take-append-le e log (new ∷ []) l) ∙ sym (pages_in log e m l))

  -- the newest edition
  pages_new : (m : Name) → pages (add log n rows) (length log + 1) m ≡ option_map page (newer m (latest m log) new)
  pages_new m =
      let k = length_push log new in
      pages_in (add log n rows) (length log + 1) m (omega arith) ∙ (ap (λ xs. option_map page (latest m xs)) (take_all (length log + 1) (add log n rows) (omega arith)) ∙ ap (option_map page) (fold_push (newer m) None log new))

  pub pages_own : pages (add log n rows) (length log + 1) n ≡ Some (page new)
  pages_own = pages_new n ∙ ap (option_map page) (newer_yes n (latest n log) new refl)

  pub pages_others : (m : Name) → (m ≢ n) → pages (add log n rows) (length log + 1) m ≡ pages log (length log) m
  pages_others m d =
      pages_new m ∙ (ap (option_map page) (newer_no m (latest m log) new (λ q. d (sym q))) ∙ (ap (λ xs. option_map page (latest m xs)) (sym (take_all (length log) log (omega arith))) ∙ sym (pages_in log (length log) m (omega arith))))

  pub in_order_add : InOrder log → is_name n.bytes ≡ true → Sound table_rows era rows → InOrder (add log n rows)
  in_order_add o v s =
      record {
        names = λ k l. by_place k l (λ h. subst (λ p. is_name p.name.bytes ≡ true) (sym (old k h)) (o.names k h)) (λ h. subst (λ p. is_name p.name.bytes ≡ true) (sym (own k h)) v);
        tables = λ k l. by_place k l (λ h. subst (λ p. Sound table_rows era p.rows) (sym (old k h)) (o.tables k h)) (λ h. subst (λ p. Sound table_rows era p.rows) (sym (own k h)) s);
        tags = λ k l. by_place k l (λ h. ruled k (at log k) (old k h) (omega arith) (o.tags k h)) (λ h. ruled k new (own k h) (omega arith) (ap (λ xs. tag_for xs n rows) (sym (take_all k log (omega arith)))));
      }
    where
      old : (k : ℕ) → k < length log → at (add log n rows) k ≡ at log k
      old k h = get_or_append_left log (new ∷ []) nothing k h

      own : (k : ℕ) → length log ≡ k → at (add log n rows) k ≡ new
      own k h = get_or_push log new nothing k h

      by_place : {P : Type 0} (k : ℕ) → k < length (add log n rows) → (k < length log → P) → (length log ≡ k → P) → P
      by_place k l f g = elim (places k (length log) (let m = length_push log new in omega arith)) [ inl h ↦ f h | inr h ↦ g h ]
        where
          places : (i m : ℕ) → i < m + 1 → (i < m) ⊎ (m ≡ i)
          places i m h = grind arith

      ruled : (k : ℕ) (p : Publication) → at (add log n rows) k ≡ p → k ≤ length log → p.tag ≡ tag_for (take k log) p.name p.rows → (at (add log n rows) k).tag ≡ tag_for (take k (add log n rows)) (at (add log n rows) k).name (at (add log n rows) k).rows
      ruled k p q l t = rw (q, take-append-le k log (new ∷ []) l) t

pub in_order_nil : InOrder []
in_order_nil = record { names = λ k l. absurd (omega arith); tables = λ k l. absurd (omega arith); tags = λ k l. absurd (omega arith) }
