-- Reading by a guess that is checked finds the value whose print it is given, and no other.
use Rattle.std.proofs.Common.{◌≡◌, ℕ, Bool, true, ◌&&◌, List, Some, None, Option, sym, refl, ap, ◌∙◌, ⊎_elim, arith, MatchOption}
use Rattle.std.specs.Str.{bytes_eq}
use Rattle.std.proofs.lemmas.Slice.Eq.{bytes_eq-Decides}
use Rattle.std.proofs.lemmas.Bool.{cases_Bool, cond-true, cond-false, and_from, and_parts}
use Rattle.fields.specs.Digits.{checked}

-- the print of an allowed value is read as that value
pub checked_print : {X : Type 0} (allowed : X → Bool) (print : X → List ℕ) (guess : List ℕ → X) (x : X) → allowed x ≡ true → guess (print x) ≡ x → checked allowed print guess (print x) ≡ Some x
checked_print allowed print guess x h g =
    let t : (allowed (guess (print x)) && bytes_eq (print x) (print (guess (print x)))) ≡ true =
    and_from _ _ (ap allowed g ∙ h) ((bytes_eq-Decides _ _).1 (ap print (sym g))) in
    cond-true _ (Some (guess (print x))) None t ∙ ap Some g

-- a text that is read as a value is the print of it
pub checked_only : {X : Type 0} (allowed : X → Bool) (print : X → List ℕ) (guess : List ℕ → X) (t : List ℕ) (x : X) → checked allowed print guess t ≡ Some x → (allowed x ≡ true) × (t ≡ print x)
checked_only {X} allowed print guess t x e =
    let test : Bool = allowed (guess t) && bytes_eq t (print (guess t)) in
    ⊎_elim
    (λ y.
    let p = and_parts _ _ y in
    let same : guess t ≡ x = let w = cond-true test (Some (guess t)) None y in cc in
    (ap allowed (sym same) ∙ p.0, (bytes_eq-Decides _ _).0 p.1 ∙ ap print same))
    (λ n. let w = cond-false test (Some (guess t)) None n in let z : ◌≡◌ {A = ℕ} 0 1 = cc in absurd (omega arith))
    (cases_Bool test)

-- for code that answers by the prints of values
pub checked_from : {X : Type 0} (allowed : X → Bool) (print : X → List ℕ) (guess : List ℕ → X) → ((x : X) → allowed x ≡ true → guess (print x) ≡ x) → (t : List ℕ) (r : Option X)
    → MatchOption r ((x : X) → allowed x ≡ true → t ≡ print x → ⊥) (λ x. (allowed x ≡ true) × (t ≡ print x)) → r ≡ checked allowed print guess t
checked_from allowed print guess back t (Some x) w =
    sym (ap (checked allowed print guess) w.1 ∙ checked_print allowed print guess x w.0 (back x w.0))
checked_from {X} allowed print guess back t None w = none (checked allowed print guess t) refl where
  none : (o : Option X) → checked allowed print guess t ≡ o → None ≡ checked allowed print guess t
  none None e = sym e
  none (Some x) e = let p = checked_only allowed print guess t x e in absurd (w x p.0 p.1)
