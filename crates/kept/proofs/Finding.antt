-- What is kept, place by place. Assumes nothing.
use Rattle.std.proofs.Common.{◌≡◌, ℕ, suc, ◌+◌, ◌<◌, Bool, true, false, cond, not, ltb, List, [], ◌∷◌, map, length, get_or, replicate, Some, None, Option, position, sym, refl, ap, ◌∙◌, subst, arith}
use Rattle.std.specs.Option.{option_map, option_or}
use Rattle.std.specs.List.{position_or_len}
use Rattle.std.proofs.lemmas.Grind.{common_steps}
use Rattle.std.proofs.lemmas.List.{get_or-map}
use Rattle.std.proofs.lemmas.List.Sums.{position_or_len_is}
use Rattle.std.proofs.lemmas.List.Quantifiers.{position-Some}
use Rattle.names.specs.declared.name.Name.{Name}
use Rattle.names.specs.Comparing.{same_name}
use Rattle.names.proofs.Ordered.{same_name_is}
use Rattle.zone.specs.declared.rows.Interval.{Interval}
use Rattle.zone.specs.Intervals.{within}
use Rattle.kept.specs.declared.places.Place.{Place}
use Rattle.kept.specs.Keeping.{Kept, if_contains, is_free, is_of, kept_at, kept_for, kept_in, may_replace, place_for, place_of}

module _ {X : Type 0} (p : X → Bool) where
  -- a search of one more place
  pub position_cons : (x : X) (xs : List X) → position p (x ∷ xs) ≡ cond (p x) (Some 0) (option_map suc (position p xs))
  position_cons x xs = by (p x) (position_or_len p xs)
    where
      tested : (b : Bool) (k l : ℕ) → ltb k l ≡ b → cond (ltb (1 + k) (suc l)) (Some (1 + k)) None ≡ option_map suc (cond b (Some k) None)
      tested true k l e = grind (arith, common_steps)
      tested false k l e = grind (arith, common_steps)

      by : (b : Bool) (k : ℕ) → cond (ltb (cond (not b) (1 + k) 0) (suc (length xs))) (Some (cond (not b) (1 + k) 0)) None ≡ cond b (Some 0) (option_map suc (cond (ltb k (length xs)) (Some k) None))
      by true k = grind (arith, common_steps)
      by false k = tested (ltb k (length xs)) k (length xs) refl

  -- the first place that passes is found
  pub found_at : (xs : List X) (i : ℕ) (d : X) → ((k : ℕ) → k < i → p (get_or xs k d) ≡ false) → i < length xs → p (get_or xs i d) ≡ true → position p xs ≡ Some i
  found_at xs i d before l here =
      let at : position_or_len p xs ≡ i = position_or_len_is p xs i d (omega arith) before (λ _. here) in
      grind (arith, common_steps)

-- a search of what a function gives of each place is a search of the places
pub position_of_map : {X Y : Type 0} (p : Y → Bool) (f : X → Y) (xs : List X) → position p (map f xs) ≡ position (λ x. p (f x)) xs
position_of_map p f [] = refl
position_of_map p f (x ∷ xs) = position_cons p (f x) (map f xs) ∙ ap (λ o. cond (p (f x)) (Some 0) (option_map suc o)) (position_of_map p f xs) ∙ sym (position_cons (λ y. p (f y)) x xs)

-- places that keep nothing
pub free_made : (xs : List Place) (n : ℕ) → length xs ≡ n → ((i : ℕ) → i < n → (d : Place) → kept_in (get_or xs i d) ≡ None) → map kept_in xs ≡ replicate n None
free_made xs n long free = subst (λ k. map kept_in xs ≡ replicate k None) long (each xs (λ i l d. free i (omega arith) d))
  where
    each : (ys : List Place) → ((i : ℕ) → i < length ys → (d : Place) → kept_in (get_or ys i d) ≡ None) → map kept_in ys ≡ replicate (length ys) None
    each [] h = refl
    each (y ∷ ys) h =
        let first = h 0 (omega arith) y in
        let rest = each ys (λ i l d. h (suc i) (omega arith) d) in
        cc

-- what keeps nothing is free
pub free_is : (o : Option Kept) → is_free o ≡ true → o ≡ None
free_is None h = refl
free_is (Some k) h = cc

-- where a page of the name goes is what is kept of the name, if anything is
pub kept_where : (ps : List (Option Kept)) (n : Name) (j : ℕ) → place_for ps n ≡ Some j → get_or ps j None ≡ kept_for ps n
kept_where ps n j h = by (place_of ps n) (position is_free ps) refl h
  where
    by : (o f : Option ℕ) → position is_free ps ≡ f → option_or o f ≡ Some j → get_or ps j None ≡ kept_at ps o
    by (Some k) f e g = let is : k ≡ j = cc in ap (λ i. get_or ps i None) (sym is)
    by None f e g = free_is _ (position-Some is_free ps j None (e ∙ g)).1

-- the test at the place is the test of what is kept of the name
pub may_there : (xs : List Place) (n : Name) (e j : ℕ) (old : Place) → Some j ≡ place_for (map kept_in xs) n → j < length xs → old ≡ get_or xs j old → may_replace e (kept_in old) ≡ may_replace e (kept_for (map kept_in xs) n)
may_there xs n e j old at l is = ap (may_replace e) (ap kept_in is ∙ sym (get_or-map kept_in xs j old None l) ∙ kept_where (map kept_in xs) n j (sym at))

-- what is kept of a name has that name
pub kept_named : (ps : List (Option Kept)) (n : Name) (k : Kept) → kept_for ps n ≡ Some k → k.name ≡ n
kept_named ps n k h = at (place_of ps n) refl h
  where
    at : (o : Option ℕ) → place_of ps n ≡ o → kept_at ps o ≡ Some k → k.name ≡ n
    at None e g = cc
    at (Some j) e g =
        let t : same_name k.name n ≡ true = subst (λ (o : Option Kept). is_of n o ≡ true) g (position-Some (is_of n) ps j None e).1 in
        same_name_is k.name n t

-- a page that is kept over an interval is kept, and contains it
pub serving_parts : (i : Interval) (o : Option Kept) (k : Kept) → if_contains i o ≡ Some k → (o ≡ Some k) × (within i k.interval ≡ true)
serving_parts i None k h = cc
serving_parts i (Some a) k h = by (within i a.interval) refl h
  where
    by : (b : Bool) → within i a.interval ≡ b → cond b (Some a) None ≡ Some k → (Some a ≡ Some k) × (within i k.interval ≡ true)
    by true e g = let z : a ≡ k = cc in (g, subst (λ (x : Kept). within i x.interval ≡ true) z e)
    by false e g = cc
