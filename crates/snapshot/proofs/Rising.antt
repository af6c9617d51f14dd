-- Zones whose names rise, by places. Assumes nothing.
use Rattle.std.proofs.Common.{◌≡◌, ℕ, zero, suc, ◌+◌, ◌<◌, Bool, true, false, List, [], ◌∷◌, length, get_or, sym, refl, ap, ◌∙◌, subst, add-one, inl, inr, arith}
use Rattle.std.proofs.lemmas.Bool.{and_parts, and_from, cases_Bool}
use Rattle.std.specs.List.{IsAllAdjacentAnswer}
use Rattle.names.specs.Comparing.{before}
use Rattle.snapshot.specs.declared.zones.Zone.{Zone}
use Rattle.snapshot.specs.Zones.{rising}

-- the name of the first comes before that of the second
abbrev pub Ahead : Zone → Zone → Type 0
Ahead a b = before a.name.bytes b.name.bytes ≡ true

-- names that rise, by places
abbrev pub Rise : List Zone → Type 0
Rise zs = (k : ℕ) (d : Zone) → k + 1 < length zs → Ahead (get_or zs k d) (get_or zs (k + 1) d)

next_is : (z d : Zone) (zs : List Zone) (k : ℕ) → get_or (z ∷ zs) (k + 1) d ≡ get_or zs k d
next_is z d zs k = ap (λ x. get_or (z ∷ zs) x d) (add-one k)

pub rise_from : (zs : List Zone) → rising zs ≡ true → Rise zs
rise_from [] h k d l = absurd (omega arith)
rise_from (z ∷ []) h k d l = absurd (omega arith)
rise_from (z ∷ y ∷ ys) h zero d l = (and_parts (before z.name.bytes y.name.bytes) (rising (y ∷ ys)) h).0
rise_from (z ∷ y ∷ ys) h (suc k) d l =
    let r = rise_from (y ∷ ys) (and_parts (before z.name.bytes y.name.bytes) (rising (y ∷ ys)) h).1 k d (omega arith) in
    let e : get_or (z ∷ y ∷ ys) (suc k + 1) d ≡ get_or (y ∷ ys) (k + 1) d = next_is z d (y ∷ ys) (suc k) ∙ ap (λ x. get_or (y ∷ ys) x d) (sym (add-one k)) in
    subst (λ (x : Zone). Ahead (get_or (y ∷ ys) k d) x) (sym e) r

pub rise_to : (zs : List Zone) → Rise zs → rising zs ≡ true
rise_to [] h = refl
rise_to (z ∷ []) h = refl
rise_to (z ∷ y ∷ ys) h =
    and_from (before z.name.bytes y.name.bytes) (rising (y ∷ ys)) (h 0 z (omega arith)) (rise_to (y ∷ ys) (λ k d l. subst (λ (x : Zone). Ahead x (get_or (y ∷ ys) (k + 1) d)) (next_is z d (y ∷ ys) k) (subst (λ (x : Zone). Ahead (get_or (z ∷ y ∷ ys) (k + 1) d) x) (next_is z d (y ∷ ys) (k + 1)) (h (k + 1) d (omega arith)))))

both : (zs : List Zone) (k : ℕ) → k + 1 < length zs → ((d : Zone) → false ≡ before (get_or zs k d).name.bytes (get_or zs (k + 1) d).name.bytes) → Rise zs → ⊥
both [] k l f h = omega arith
both (z ∷ zs) k l f h = let e : false ≡ true = f z ∙ h k z l in let n : ◌≡◌ {A = ℕ} 0 1 = cc in omega arith

-- what a test of all neighbours tells
pub rises : (zs : List Zone) (r : Bool) → IsAllAdjacentAnswer (λ x y b. b ≡ before x.name.bytes y.name.bytes) zs r → r ≡ rising zs
rises zs true h = sym (rise_to zs (λ k d l. sym (h k d l)))
rises zs false (k, l, f) = elim (cases_Bool (rising zs)) [ inl y ↦ absurd (both zs k l f (rise_from zs y)) | inr n ↦ sym n ]
