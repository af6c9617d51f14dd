-- What is kept stays one page a name. Assumes nothing.
use Rattle.std.proofs.Common.{◌≡◌, ℕ, zero, suc, ◌<◌, max, Bool, true, false, cond, ltb, ◌⊎◌, List, [], ◌∷◌, length, get_or, set, replicate, Some, None, Ok, Err, Option, Result, position, sym, refl, ap, ◌∙◌, subst, inl, inr, arith}
use native.Mathlib.Nat.{le-max_left}
use Rattle.std.specs.Option.{option_map, option_or}
use Rattle.std.proofs.lemmas.List.{length-set, get_or-set_same, get_or-set_other}
use Rattle.std.proofs.lemmas.List.Quantifiers.{position-Some}
use Rattle.std.proofs.lemmas.Bool.{both_ways, cases_eq, false_from_ne_true, leb-true}
use Rattle.names.specs.declared.name.Name.{Name}
use Rattle.names.specs.Comparing.{same_name}
use Rattle.names.proofs.Ordered.{same_name_is, same_name_self}
use Rattle.zone.specs.declared.refusals.Refusal.{Refusal}
use Rattle.zone.specs.declared.windows.Window.{Window}
use Rattle.provider.specs.declared.requests.Reply.{Reply}
use Rattle.provider.specs.declared.requests.Reply.TheVariants.{Unchanged, Fresh}
use Rattle.provider.specs.declared.requests.Request.{Request}
use Rattle.kept.specs.declared.steps.Step.{Step}
use Rattle.kept.specs.declared.steps.Step.TheVariants.{PassOn, Serve, Renew, Take}
use Rattle.kept.specs.Keeping.{Kept, from_edition, is_free, is_of, kept_at, kept_for, may_replace, none_kept, place_for, place_of, serving, with_page}
use Rattle.kept.specs.Laws.{Apart, KeptWell, NoLower, PagesStand}
use Rattle.kept.specs.Stepping.{is_older, kept_by, page_in, step}
use Rattle.kept.proofs.Finding.{found_at, free_is, kept_named, position_cons, serving_parts}

-- two names of what is kept at one place are the same
one_name : (x y : Name) (o : Option Kept) → is_of x o ≡ true → is_of y o ≡ true → x ≡ y
one_name x y None h g = cc
one_name x y (Some k) h g = sym (same_name_is k.name x h) ∙ same_name_is k.name y g

-- where none was found, none passes
pub none_passes : (test : Option Kept → Bool) (ps : List (Option Kept)) → test None ≡ false → position test ps ≡ None → (i : ℕ) → test (get_or ps i None) ≡ false
none_passes test [] n h i = n
none_passes test (p ∷ ps) n h i = by (test p) (position test ps) refl refl (sym (position_cons test p ps) ∙ h) (none_passes test ps n) i
  where
    by : (b : Bool) (o : Option ℕ) → test p ≡ b → position test ps ≡ o → cond b (Some 0) (option_map suc o) ≡ None → (position test ps ≡ None → (i : ℕ) → test (get_or ps i None) ≡ false) → (i : ℕ) → test (get_or (p ∷ ps) i None) ≡ false
    by true o t f g ih i = cc
    by false (Some j) t f g ih i = cc
    by false None t f g ih zero = t
    by false None t f g ih (suc i) = ih f i

-- what is kept of a name is at the first place, or further on
kept_cons : (n : Name) (p : Option Kept) (ps : List (Option Kept)) → kept_for (p ∷ ps) n ≡ cond (is_of n p) p (kept_for ps n)
kept_cons n p ps = ap (kept_at (p ∷ ps)) (position_cons (is_of n) p ps) ∙ by (is_of n p) (place_of ps n)
  where
    by : (b : Bool) (o : Option ℕ) → kept_at (p ∷ ps) (cond b (Some 0) (option_map suc o)) ≡ cond b p (kept_at ps o)
    by true o = refl
    by false None = refl
    by false (Some j) = refl

-- a page of another name in the stead of one of another name
skips : (n : Name) (ps : List (Option Kept)) (j : ℕ) (x : Option Kept) → is_of n (get_or ps j None) ≡ false → is_of n x ≡ false → kept_for (set ps j x) n ≡ kept_for ps n
skips n [] j x old new = refl
skips n (p ∷ ps) zero x old new = kept_cons n x ps ∙ ap (λ (b : Bool). cond b x (kept_for ps n)) new ∙ sym (ap (λ (b : Bool). cond b p (kept_for ps n)) old) ∙ sym (kept_cons n p ps)
skips n (p ∷ ps) (suc j) x old new = kept_cons n p (set ps j x) ∙ ap (cond (is_of n p) p) (skips n ps j x old new) ∙ sym (kept_cons n p ps)

-- what stays as it was is kept well
no_lower_self : (o : Option Kept) → NoLower o o
no_lower_self None = tt
no_lower_self (Some k) = omega arith

as_before : (ps : List (Option Kept)) (n : Name) → KeptWell ps ps n
as_before ps n = record { places = refl; apart = λ a. a; others = λ other d. refl; no_lower = no_lower_self (kept_for ps n) }

-- where a page of the name goes
data Goes (ps : List (Option Kept)) (n : Name) (j : ℕ) : Type 0 where
  over : place_of ps n ≡ Some j → Goes ps n j
  beside : place_of ps n ≡ None → position is_free ps ≡ Some j → Goes ps n j

module _ (ps : List (Option Kept)) (n : Name) (j : ℕ) where
  goes_within : Goes ps n j → j < length ps
  goes_within (over h) = (position-Some (is_of n) ps j None h).0
  goes_within (beside h f) = (position-Some is_free ps j None f).0

  goes_before : Goes ps n j → (i : ℕ) → i < j → is_of n (get_or ps i None) ≡ false
  goes_before (over h) i l = (position-Some (is_of n) ps j None h).2 i l
  goes_before (beside h f) i l = none_passes (is_of n) ps refl h i

  -- only a page of the name stands there
  goes_there : Goes ps n j → (x : Name) → (x ≡ n → ⊥) → is_of x (get_or ps j None) ≡ false
  goes_there (over h) x d = false_from_ne_true _ (λ e. d (one_name x n (get_or ps j None) e (position-Some (is_of n) ps j None h).1))
  goes_there (beside h f) x d = ap (is_of x) (free_is _ (position-Some is_free ps j None f).1)

  -- and nowhere else
  goes_only : Goes ps n j → Apart ps → (i : ℕ) → is_of n (get_or ps i None) ≡ true → i ≡ j
  goes_only (over h) apart i t = apart n i j t (position-Some (is_of n) ps j None h).1
  goes_only (beside h f) apart i t = absurd (both_ways (is_of n (get_or ps i None)) (none_passes (is_of n) ps refl h i) t)

  module _ (k : Kept) (goes : Goes ps n j) (named : k.name ≡ n) where
    is_its : is_of n (Some k) ≡ true
    is_its = subst (λ (x : Name). same_name k.name x ≡ true) named (same_name_self k.name)

    there : get_or (set ps j (Some k)) j None ≡ Some k
    there = get_or-set_same ps j (Some k) None (goes_within goes)

    -- it is what is kept of the name
    put_kept : kept_for (set ps j (Some k)) n ≡ Some k
    put_kept =
        let found : place_of (set ps j (Some k)) n ≡ Some j = found_at (is_of n) (set ps j (Some k)) j None (λ i l. ap (is_of n) (get_or-set_other ps j i (Some k) None (λ e. absurd (omega arith))) ∙ goes_before goes i l) (subst (λ x. j < x) (sym (length-set ps j (Some k))) (goes_within goes)) (ap (is_of n) there ∙ is_its) in
        ap (kept_at (set ps j (Some k))) found ∙ there

    -- a place after the change
    hit : (x : Name) (i : ℕ) → is_of x (get_or (set ps j (Some k)) i None) ≡ true → ((i ≡ j) × (x ≡ n)) ⊎ ((i ≡ j → ⊥) × (is_of x (get_or ps i None) ≡ true))
    hit x i h = by (cases_eq i j)
      where
        by : (i ≡ j) ⊎ (i ≡ j → ⊥) → ((i ≡ j) × (x ≡ n)) ⊎ ((i ≡ j → ⊥) × (is_of x (get_or ps i None) ≡ true))
        by (inl e) =
            let t : is_of x (Some k) ≡ true = subst (λ (o : Option Kept). is_of x o ≡ true) there (subst (λ a. is_of x (get_or (set ps j (Some k)) a None) ≡ true) e h) in
            inl (e, one_name x n (Some k) t is_its)
        by (inr d) = inr (d, subst (λ (o : Option Kept). is_of x o ≡ true) (get_or-set_other ps j i (Some k) None d) h)

    put_apart : Apart ps → Apart (set ps j (Some k))
    put_apart apart x a b h g = by (hit x a h) (hit x b g)
      where
        by : ((a ≡ j) × (x ≡ n)) ⊎ ((a ≡ j → ⊥) × (is_of x (get_or ps a None) ≡ true)) → ((b ≡ j) × (x ≡ n)) ⊎ ((b ≡ j → ⊥) × (is_of x (get_or ps b None) ≡ true)) → a ≡ b
        by (inl u) (inl v) = u.0 ∙ sym v.0
        by (inl u) (inr v) = absurd (v.0 (goes_only goes apart b (subst (λ (y : Name). is_of y (get_or ps b None) ≡ true) u.1 v.1)))
        by (inr u) (inl v) = absurd (u.0 (goes_only goes apart a (subst (λ (y : Name). is_of y (get_or ps a None) ≡ true) v.1 u.1)))
        by (inr u) (inr v) = apart x a b u.1 v.1

    other_than : (x : Name) → (x ≡ n → ⊥) → is_of x (Some k) ≡ false
    other_than x d = false_from_ne_true _ (λ e. d (one_name x n (Some k) e is_its))

    put_well : NoLower (kept_for ps n) (Some k) → KeptWell ps (set ps j (Some k)) n
    put_well low = record {
      places = length-set ps j (Some k);
      apart = put_apart;
      others = λ x d. skips x ps j (Some k) (goes_there goes x d) (other_than x d);
      no_lower = subst (NoLower (kept_for ps n)) (sym put_kept) low;
    }

-- a page that takes the place of what is no newer
replaces : (e : ℕ) (o : Option Kept) (k : Kept) → may_replace e o ≡ true → k.edition ≡ e → NoLower o (Some k)
replaces e None k h is = tt
replaces e (Some old) k h is = omega (arith, leb-true old.edition e h)

module _ (ps : List (Option Kept)) (q : Request) (w : Window) where
  take_well : (e t : ℕ) → KeptWell ps (kept_by ps q w (Take e t)) q.name
  take_well e t = by (may_replace e (kept_for ps q.name)) refl
    where
      put : (o f : Option ℕ) → place_of ps q.name ≡ o → position is_free ps ≡ f → may_replace e (kept_for ps q.name) ≡ true → KeptWell ps (with_page ps (option_or o f) (Some (page_in q e t w))) q.name
      put (Some j) f is g m = put_well ps q.name j (page_in q e t w) (over is) refl (replaces e (kept_for ps q.name) (page_in q e t w) m refl)
      put None (Some j) is g m = put_well ps q.name j (page_in q e t w) (beside is g) refl (replaces e (kept_for ps q.name) (page_in q e t w) m refl)
      put None None is g m = as_before ps q.name

      by : (b : Bool) → may_replace e (kept_for ps q.name) ≡ b → KeptWell ps (cond b (with_page ps (place_for ps q.name) (Some (page_in q e t w))) ps) q.name
      by true m = put (place_of ps q.name) (position is_free ps) refl refl m
      by false m = as_before ps q.name

  renew_well : (e : ℕ) (k : Kept) → serving ps q.name q.interval ≡ Some k → KeptWell ps (kept_by ps q w (Renew (max k.edition e))) q.name
  renew_well e k is = by (place_of ps q.name) refl (serving_parts q.interval (kept_for ps q.name) k is).0
    where
      by : (o : Option ℕ) → place_of ps q.name ≡ o → kept_for ps q.name ≡ Some k → KeptWell ps (with_page ps o (option_map (from_edition (max k.edition e)) (kept_for ps q.name))) q.name
      by None at h = as_before ps q.name
      by (Some j) at h =
          let named : k.name ≡ q.name = kept_named ps q.name k h in
          let low : NoLower (kept_for ps q.name) (Some (from_edition (max k.edition e) k)) = subst (λ (o : Option Kept). NoLower o (Some (from_edition (max k.edition e) k))) (sym h) (le-max_left k.edition e) in
          subst (λ (o : Option Kept). KeptWell ps (set ps j (option_map (from_edition (max k.edition e)) o)) q.name) (sym h) (put_well ps q.name j (from_edition (max k.edition e) k) (over at) named low)

  served : (b : Bool) (k : ℕ) (x : Step) → KeptWell ps (kept_by ps q w x) q.name → KeptWell ps (kept_by ps q w (cond b (Serve k) x)) q.name
  served true k x h = as_before ps q.name
  served false k x h = h

  step_well : (r : Result Reply Refusal) (o : Option Kept) → serving ps q.name q.interval ≡ o → KeptWell ps (kept_by ps q w (step o r)) q.name
  step_well (Err r) None is = as_before ps q.name
  step_well (Ok (Unchanged e)) None is = as_before ps q.name
  step_well (Ok (Fresh e t)) None is = take_well e t
  step_well (Err r) (Some k) is = served (is_older k.edition r) k.edition PassOn (as_before ps q.name)
  step_well (Ok (Unchanged e)) (Some k) is = renew_well e k is
  step_well (Ok (Fresh e t)) (Some k) is = served (ltb e k.edition) k.edition (Take e t) (take_well e t)

-- nothing is kept at first
none_there : (c i : ℕ) → get_or {A = Option Kept} (replicate c None) i None ≡ None
none_there zero i = refl
none_there (suc c) zero = refl
none_there (suc c) (suc i) = none_there c i

pub pages_stand : PagesStand
pages_stand = record {
  at_first = λ n i j h g. absurd (both_ways (is_of n (get_or none_kept i None)) (ap (is_of n) (none_there 8 i)) h);
  stay = λ ps q r w. step_well ps q w r (serving ps q.name q.interval) refl;
}
