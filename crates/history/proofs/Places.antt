-- The cell of a zone among the cells, and what a change of one cell leaves of the others. Assumes nothing.
use Rattle.std.proofs.Common.{◌≡◌, ℕ, zero, suc, ◌+◌, ◌<◌, Bool, true, false, cond, List, [], ◌∷◌, length, position, get_or, set, replicate, Some, None, Option, sym, refl, ap, ◌∙◌, subst, arith}
use Rattle.std.proofs.lemmas.Iterator.Adapters.{position_from-zero}
use Rattle.std.proofs.lemmas.List.Quantifiers.{position-Some}
use Rattle.std.specs.List.{position_from}
use Rattle.names.specs.declared.name.Name.{Name}
use Rattle.names.specs.Comparing.{same_name}
use Rattle.names.proofs.Ordered.{same_name_is}
use Rattle.history.specs.Cells.{Cell, State, free, is_owner, owned_by, has_no_owner, is_free, place_of, cell_at}

-- from two unequal constructors that are equal
pub clash : {X : Type 0} → ◌≡◌ {A = ℕ} 0 1 → X
clash z = absurd (omega arith)

pub not_both : {X : Type 0} (b : Bool) → b ≡ true → b ≡ false → X
not_both b p q = clash (cc)

-- cases of an option, with the equation
pub by_option : {A : Type 0} (o : Option A) (P : Option A → Type 0) → (o ≡ None → P None) → ((a : A) → o ≡ Some a → P (Some a)) → P o
by_option None P f g = f refl
by_option (Some a) P f g = g a refl

-- the first cell that passes a test, or a free one
abbrev pub found : (Cell → Bool) → List Cell → Cell
found p [] = free
found p (c ∷ cs) = cond (p c) c (found p cs)

-- no cell passes
abbrev pub Lacks : (Cell → Bool) → List Cell → Type 0
Lacks p [] = Unit {0}
Lacks p (c ∷ cs) = (p c ≡ false) × Lacks p cs

-- at most one cell passes
abbrev pub Once : (Cell → Bool) → List Cell → Type 0
Once p [] = Unit {0}
Once p (c ∷ cs) = (p c ≡ true → Lacks p cs) × Once p cs

-- the first cell that passes stands at k
abbrev pub At : (Cell → Bool) → List Cell → ℕ → Type 0
At p [] k = ⊥
At p (c ∷ cs) zero = p c ≡ true
At p (c ∷ cs) (suc k) = (p c ≡ false) × At p cs k

-- the place that a search answers
at_first : (p : Cell → Bool) (cs : List Cell) (k : ℕ) → k < length cs → p (get_or cs k free) ≡ true → ((j : ℕ) → j < k → p (get_or cs j free) ≡ false) → At p cs k
at_first p [] k l t before = absurd (omega arith)
at_first p (c ∷ cs) zero l t before = t
at_first p (c ∷ cs) (suc k) l t before = (before 0 (omega arith), at_first p cs k (omega arith) t (λ j m. before (suc j) (omega arith)))

pub place_some : (p : Cell → Bool) (cs : List Cell) (k : ℕ) → position p cs ≡ Some k → At p cs k
place_some p cs k e = let h = position-Some p cs k free e in at_first p cs k h.0 h.1 h.2

none_from : (p : Cell → Bool) (i : ℕ) (cs : List Cell) → position_from p i cs ≡ None → Lacks p cs
none_from p i [] e = tt
none_from p i (c ∷ cs) e = here (p c) refl e (none_from p (i + 1) cs)
  where
    here : (b : Bool) → p c ≡ b → cond b (Some i) (position_from p (i + 1) cs) ≡ None → (position_from p (i + 1) cs ≡ None → Lacks p cs) → Lacks p (c ∷ cs)
    here true t e more = clash (cc)
    here false t e more = (t, more e)

pub place_none : (p : Cell → Bool) (cs : List Cell) → position p cs ≡ None → Lacks p cs
place_none p cs e = none_from p 0 cs (sym (position_from-zero p cs) ∙ e)

pub found_at : (p : Cell → Bool) (cs : List Cell) (k : ℕ) → At p cs k → get_or cs k free ≡ found p cs
found_at p [] k h = absurd h
found_at p (c ∷ cs) zero h = rw h
found_at p (c ∷ cs) (suc k) h = rw h.0 (found_at p cs k h.1)

pub passes_at : (p : Cell → Bool) (cs : List Cell) (k : ℕ) → At p cs k → p (get_or cs k free) ≡ true
passes_at p [] k h = absurd h
passes_at p (c ∷ cs) zero h = h
passes_at p (c ∷ cs) (suc k) h = passes_at p cs k h.1

pub found_none : (p : Cell → Bool) (cs : List Cell) → Lacks p cs → found p cs ≡ free
found_none p [] h = refl
found_none p (c ∷ cs) h = rw h.0 (found_none p cs h.1)

once_none : (p : Cell → Bool) (cs : List Cell) → Lacks p cs → Once p cs
once_none p [] h = tt
once_none p (c ∷ cs) h = (λ t. not_both (p c) t h.0, once_none p cs h.1)

-- free cells have no owner
lacks_free : (p : Cell → Bool) (n : ℕ) → p free ≡ false → Lacks p (replicate n free)
lacks_free p zero h = tt
lacks_free p (suc n) h = (h, lacks_free p n h)

pub once_free : (p : Cell → Bool) (n : ℕ) → p free ≡ false → Once p (replicate n free)
once_free p n h = once_none p (replicate n free) (lacks_free p n h)

-- after a change of the cell at k, which passed p: another test, which neither the old nor the new cell passes
module _ (p q : Cell → Bool) (x : Cell) (old : (c : Cell) → p c ≡ true → q c ≡ false) (new : q x ≡ false) where
  other_found : (cs : List Cell) (k : ℕ) → At p cs k → found q (set cs k x) ≡ found q cs
  other_found [] k h = absurd h
  other_found (c ∷ cs) zero h = rw (new, old c h)
  other_found (c ∷ cs) (suc k) h = ap (cond (q c) c) (other_found cs k h.1)

  other_lacks : (cs : List Cell) (k : ℕ) → At p cs k → Lacks q cs → Lacks q (set cs k x)
  other_lacks [] k h l = absurd h
  other_lacks (c ∷ cs) zero h l = (new, l.1)
  other_lacks (c ∷ cs) (suc k) h l = (l.0, other_lacks cs k h.1 l.1)

  other_once : (cs : List Cell) (k : ℕ) → At p cs k → Once q cs → Once q (set cs k x)
  other_once [] k h o = absurd h
  other_once (c ∷ cs) zero h o = (λ t. not_both (q x) t new, o.1)
  other_once (c ∷ cs) (suc k) h o = (λ t. other_lacks cs k h.1 (o.0 t), other_once cs k h.1 o.1)

-- the same test, which the new cell passes
module _ (p : Cell → Bool) (x : Cell) (new : p x ≡ true) where
  same_found : (cs : List Cell) (k : ℕ) → At p cs k → found p (set cs k x) ≡ x
  same_found [] k h = absurd h
  same_found (c ∷ cs) zero h = rw new
  same_found (c ∷ cs) (suc k) h = rw h.0 (same_found cs k h.1)

  same_once : (cs : List Cell) (k : ℕ) → At p cs k → Once p cs → Once p (set cs k x)
  same_once [] k h o = absurd h
  same_once (c ∷ cs) zero h o = (λ t. o.0 h, o.1)
  same_once (c ∷ cs) (suc k) h o = (λ t. not_both (p c) t h.0, same_once cs k h.1 o.1)

-- the same test, which the new cell does not pass
gone_lacks : (p : Cell → Bool) (x : Cell) → p x ≡ false → (cs : List Cell) (k : ℕ) → At p cs k → Once p cs → Lacks p (set cs k x)
gone_lacks p x new [] k h o = absurd h
gone_lacks p x new (c ∷ cs) zero h o = (new, o.0 h)
gone_lacks p x new (c ∷ cs) (suc k) h o = (h.0, gone_lacks p x new cs k h.1 o.1)

-- a test that no cell passed, and that the new cell passes
module _ (p q : Cell → Bool) (x : Cell) (new : q x ≡ true) where
  first_found : (cs : List Cell) (k : ℕ) → At p cs k → Lacks q cs → found q (set cs k x) ≡ x
  first_found [] k h l = absurd h
  first_found (c ∷ cs) zero h l = rw new
  first_found (c ∷ cs) (suc k) h l = rw l.0 (first_found cs k h.1 l.1)

  first_once : (cs : List Cell) (k : ℕ) → At p cs k → Lacks q cs → Once q (set cs k x)
  first_once [] k h l = absurd h
  first_once (c ∷ cs) zero h l = (λ t. l.1, once_none q cs l.1)
  first_once (c ∷ cs) (suc k) h l = (λ t. not_both (q c) t l.0, first_once cs k h.1 l.1)

-- names
owner_apart : (n q : Name) (o : Option Name) → same_name n q ≡ false → is_owner n o ≡ true → is_owner q o ≡ false
owner_apart n q None h t = refl
owner_apart n q (Some w) h t = ap (λ (y : Name). same_name y q) (same_name_is w n t) ∙ h

free_apart : (q : Name) (o : Option Name) → has_no_owner o ≡ true → is_owner q o ≡ false
free_apart q None h = refl
free_apart q (Some w) h = clash (cc)

-- the zone's cell, or a free one
abbrev pub owned : List Cell → Name → Cell
owned cs n = found (owned_by n) cs

-- each zone owns at most one cell
abbrev pub Apart : List Cell → Type 0
Apart cs = (q : Name) → Once (owned_by q) cs

-- the cells after a change of the zone's cell
pub record Put (cs after : List Cell) (n : Name) (x : Cell) : Type 0 where
  pub mine : owned after n ≡ x
  pub others : (q : Name) → same_name n q ≡ false → owned after q ≡ owned cs q
  pub apart : Apart after

-- nothing changed
pub put_none : (cs : List Cell) (n : Name) → Apart cs → Put cs cs n (owned cs n)
put_none cs n a = record { mine = refl; others = λ q h. refl; apart = a }

once_by : (n : Name) (cs : List Cell) → Once (owned_by n) cs → ((q : Name) → same_name n q ≡ false → Once (owned_by q) cs) → Apart cs
once_by n cs mine others q = go (same_name n q) refl
  where
    go : (b : Bool) → same_name n q ≡ b → Once (owned_by q) cs
    go true t = subst (λ (y : Name). Once (owned_by y) cs) (same_name_is n q t) mine
    go false t = others q t

module _ (cs : List Cell) (n : Name) (k : ℕ) (x : Cell) (a : Apart cs) where
  -- the zone's cell, still owned by it
  pub put_owned : At (owned_by n) cs k → owned_by n x ≡ true → Put cs (set cs k x) n x
  put_owned h new =
      let old : (q : Name) → same_name n q ≡ false → (c : Cell) → owned_by n c ≡ true → owned_by q c ≡ false = λ q d c t. owner_apart n q c.owner d t in
      record {
        mine = same_found (owned_by n) x new cs k h;
        others = λ q d. other_found (owned_by n) (owned_by q) x (old q d) (old q d x new) cs k h;
        apart = once_by n (set cs k x) (same_once (owned_by n) x new cs k h (a n)) (λ q d. other_once (owned_by n) (owned_by q) x (old q d) (old q d x new) cs k h (a q));
      }

  -- a free cell, now the zone's
  pub put_first : At is_free cs k → Lacks (owned_by n) cs → owned_by n x ≡ true → Put cs (set cs k x) n x
  put_first h none new =
      let old : (q : Name) → (c : Cell) → is_free c ≡ true → owned_by q c ≡ false = λ q c t. free_apart q c.owner t in
      let now : (q : Name) → same_name n q ≡ false → owned_by q x ≡ false = λ q d. owner_apart n q x.owner d new in
      record {
        mine = first_found is_free (owned_by n) x new cs k h none;
        others = λ q d. other_found is_free (owned_by q) x (old q) (now q d) cs k h;
        apart = once_by n (set cs k x) (first_once is_free (owned_by n) x new cs k h none) (λ q d. other_once is_free (owned_by q) x (old q) (now q d) cs k h (a q));
      }

-- the zone's cell, now free
pub put_free : (cs : List Cell) (n : Name) (k : ℕ) → Apart cs → At (owned_by n) cs k → Put cs (set cs k free) n free
put_free cs n k a h =
    let old : (q : Name) → same_name n q ≡ false → (c : Cell) → owned_by n c ≡ true → owned_by q c ≡ false = λ q d c t. owner_apart n q c.owner d t in
    let gone : Lacks (owned_by n) (set cs k free) = gone_lacks (owned_by n) free refl cs k h (a n) in
    record {
      mine = found_none (owned_by n) (set cs k free) gone;
      others = λ q d. other_found (owned_by n) (owned_by q) free (old q d) refl cs k h;
      apart = once_by n (set cs k free) (once_none (owned_by n) (set cs k free) gone) (λ q d. other_once (owned_by n) (owned_by q) free (old q d) refl cs k h (a q));
    }

-- cases of the place of a zone's cell
pub by_place : (s : State) (n : Name) (P : Option ℕ → Type 0) → (Lacks (owned_by n) s.cells → owned s.cells n ≡ free → P None) → ((k : ℕ) → At (owned_by n) s.cells k → cell_at s k ≡ owned s.cells n → P (Some k)) → P (place_of s n)
by_place s n P f g =
    by_option (place_of s n) P (λ e. let l = place_none (owned_by n) s.cells e in f l (found_none (owned_by n) s.cells l))
    (λ k e. let h = place_some (owned_by n) s.cells k e in g k h (found_at (owned_by n) s.cells k h))
