-- Comparisons of rows, decided. Assumes nothing.
use Rattle.std.proofs.Common.{◌≡◌, Bool, true, false, ◌&&◌, List, [], ◌∷◌, ℤ, int_eq, Decides, refl, ap, ◌∙◌, inl, inr}
use Rattle.names.proofs.Ordered.{names_ordered}
use Rattle.std.proofs.lemmas.Bool.{cases_Bool}
use Rattle.std.proofs.lemmas.Bool.Decides.{Decides-at, Decides-and, Decides-int_eq, Decides-like}
use denote.Enum.Bare.{sameb, same_true, true_same}
use Rattle.zone.specs.contracts.rows.Observance.{the_type}
use Rattle.zone.specs.declared.rows.Observance.{Observance}
use Rattle.zone.specs.declared.rows.Observance.TheVariants.{Standard, Daylight}
use Rattle.zone.specs.declared.rows.Row.{Row}
use Rattle.zone.specs.Comparing.{same_observance, same_row, same_rows, ComparisonsStand}
use Rattle.zone.proofs.Testing.{decides_same}

decides_observance : (a b : Observance) → Decides (same_observance a b) (a ≡ b)
decides_observance Standard Standard = (λ _. refl, λ _. refl)
decides_observance Standard Daylight = (λ h. cc, λ h. cc)
decides_observance Daylight Standard = (λ h. cc, λ h. cc)
decides_observance Daylight Daylight = (λ _. refl, λ _. refl)

row_from : (a b : Row) → a.onset ≡ b.onset → a.from ≡ b.from → a.to ≡ b.to → a.observance ≡ b.observance → a ≡ b
row_from a b o f t v =
    let first : ℤ → Row = λ x. record { onset = x; from = a.from; to = a.to; observance = a.observance } in
    let second : ℤ → Row = λ x. record { onset = b.onset; from = x; to = a.to; observance = a.observance } in
    let third : ℤ → Row = λ x. record { onset = b.onset; from = b.from; to = x; observance = a.observance } in
    let fourth : Observance → Row = λ x. record { onset = b.onset; from = b.from; to = b.to; observance = x } in
    ap first o ∙ (ap second f ∙ (ap third t ∙ ap fourth v))

-- tests of two rows field by field, each of which tells whether the two are the same
decides_fields : (a b : Row) (o f t v : Bool) → Decides o (a.onset ≡ b.onset) → Decides f (a.from ≡ b.from) → Decides t (a.to ≡ b.to) → Decides v (a.observance ≡ b.observance) → Decides (o && (f && (t && v))) (a ≡ b)
decides_fields a b o f t v p q r s =
    Decides-like (o && (f && (t && v))) (λ h. row_from a b h.0 h.1.0 h.1.1.0 h.1.1.1) (λ e. (ap (λ (x : Row). x.onset) e, (ap (λ (x : Row). x.from) e, (ap (λ (x : Row). x.to) e, ap (λ (x : Row). x.observance) e))))
    (Decides-and o (f && (t && v)) p (Decides-and f (t && v) q (Decides-and t v r s)))

decides_row : (a b : Row) → Decides (same_row a b) (a ≡ b)
decides_row a b = decides_fields a b _ _ _ _ (decides_same a.onset b.onset) (decides_same a.from b.from) (decides_same a.to b.to) (decides_observance a.observance b.observance)

-- the derived test of two rows
pub derived_row : (a b : Row) (r : Bool) → r ≡ (int_eq a.onset b.onset && (int_eq a.from b.from && (int_eq a.to b.to && sameb the_type a.observance b.observance))) → Decides r (a ≡ b)
derived_row a b r e = Decides-at r _ e (decides_fields a b _ _ _ _ (Decides-int_eq a.onset b.onset) (Decides-int_eq a.from b.from) (Decides-int_eq a.to b.to) (same_true the_type tt a.observance b.observance, true_same the_type a.observance b.observance))

-- the test of rows tells whether they are the same
pub decides_rows : (a b : List Row) → Decides (same_rows a b) (a ≡ b)
decides_rows [] [] = (λ _. refl, λ _. refl)
decides_rows [] (y ∷ ys) = (λ h. cc, λ h. cc)
decides_rows (x ∷ xs) [] = (λ h. cc, λ h. cc)
decides_rows (x ∷ xs) (y ∷ ys) =
    Decides-like (same_row x y && same_rows xs ys) (λ h. let p = h.0 in let q = h.1 in cc) (λ h. (cc, cc)) (Decides-and (same_row x y) (same_rows xs ys) (decides_row x y) (decides_rows xs ys))

pub rows_agree : (a b : List Row) → a ≡ b → same_rows a b ≡ true
rows_agree a b q = (decides_rows a b).1 q

pub rows_differ : (a b : List Row) → (a ≡ b → ⊥) → same_rows a b ≡ false
rows_differ a b n = elim (cases_Bool (same_rows a b)) [ inl y ↦ absurd (n ((decides_rows a b).0 y)) | inr f ↦ f ]

-- rows that are the same are tested so
pub same_row_is : (a b : Row) → a ≡ b → same_row a b ≡ true
same_row_is a b e = (decides_row a b).1 e

pub comparisons_stand : ComparisonsStand
comparisons_stand = record { never = names_ordered.never; chain = names_ordered.chain; some = names_ordered.some; rows = decides_rows }
