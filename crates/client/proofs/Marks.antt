-- What each call of a list does to the cells, and that the pending fetches at hand go on matching them. Assumes nothing.
use Rattle.std.proofs.Common.{◌≡◌, ℕ, ◌<◌, true, false, cond, eqb, ltb, leb, ◌⊎◌, List, [], ◌∷◌, length, position, get_or, set, Some, None, MatchOption, Option, sym, refl, ap, ◌∙◌, subst, inl, inr, arith}
use Rattle.std.proofs.lemmas.List.{get_or-set_same, get_or-set_other}
use Rattle.std.proofs.lemmas.Bool.{cases_eq, cond_both}
use Rattle.names.specs.declared.name.Name.{Name}
use Rattle.names.proofs.Ordered.{same_name_is}
use Rattle.zone.specs.declared.rows.Interval.{Interval}
use Rattle.zone.specs.Intervals.{era, within}
use Rattle.names.specs.Names.{is_name}
use Rattle.zone.specs.Refusals.{Outcome}
use Rattle.zone.specs.Rows.{window_rows}
use Rattle.zone.proofs.Testing.{decides_interval}
use Rattle.cutting.specs.Cutting.{cut}
use Rattle.provider.specs.declared.providers.Provider.{Ghosts}
use Rattle.provider.specs.declared.requests.Request.{Request}
use Rattle.provider.specs.Meaning.{Meaning, Page}
use Rattle.history.specs.Cells.{Copy, Cell, State, free, is_owner, owned_by, has_no_owner, is_free, place_of, cell_at, with_cell}
use Rattle.history.specs.Histories.{Asks, Collects}
use Rattle.history.specs.Sources.{source}
use Rattle.history.specs.Steps.{began, collected, forgotten, declined, handed_back, Step, stays, settled, marked, reserved, begun, begin_step, taken, collected_at, collect_pending, collect_place, collect_step, unmarked, abandon_pending, abandon_place, abandon_step, forgotten_at, forget_place, forget_step}
use Rattle.history.proofs.Places.{clash, by_option, place_some, passes_at}
use Rattle.slots.proofs.Requests.{request_is}
use Rattle.client.specs.declared.pending.PendingFetch.{PendingFetch}
use Rattle.client.specs.Agreeing.{Ready, CopiedIf, CellAgrees, Agrees}
use Rattle.client.specs.Following.{Asked}
use Rattle.client.specs.Listing.{token_for, Matches}
use Rattle.slots.specs.Told.{is_pending, abandon_token}

-- owners
pub owner_is : (n : Name) (o : Option Name) → is_owner n o ≡ true → o ≡ Some n
owner_is n None h = clash (let z : false ≡ true = h in cc)
owner_is n (Some a) h = ap Some (same_name_is a n h)

unowned : (o : Option Name) → has_no_owner o ≡ true → o ≡ None
unowned None h = refl
unowned (Some a) h = clash (let z : false ≡ true = h in cc)

-- the cell that a search found
pub owned_at : (s : State) (n : Name) (k : ℕ) → place_of s n ≡ Some k → (cell_at s k).owner ≡ Some n
owned_at s n k h = owner_is n (cell_at s k).owner (passes_at (owned_by n) s.cells k (place_some (owned_by n) s.cells k h))

free_at : (s : State) (k : ℕ) → position is_free s.cells ≡ Some k → (cell_at s k).owner ≡ None
free_at s k h = unowned (cell_at s k).owner (passes_at is_free s.cells k (place_some is_free s.cells k h))

-- the pending fetches at hand, where one cell changes
pub matches_set : (tokens : List (Option PendingFetch)) (s : State) (k floor : ℕ) (c : Cell) (o : Option PendingFetch) → length tokens ≡ 16 → length s.cells ≡ 16 → k < 16 → o ≡ token_for k c.pending → Matches tokens s → Matches (set tokens k o) (record { cells = set s.cells k c; floor = floor })
matches_set tokens s k floor c o lt lc l t h j m = elim (cases_eq j k) [
  | inl q ↦ ap (λ x. get_or (set tokens k o) x None) q ∙ get_or-set_same tokens k o None (omega arith) ∙ t ∙ ap (λ (x : Cell). token_for k x.pending) (sym (get_or-set_same s.cells k c free (omega arith))) ∙ ap (λ x. token_for x (get_or (set s.cells k c) x free).pending) (sym q)
  | inr n ↦ get_or-set_other tokens k j o None n ∙ h j m ∙ ap (λ (x : Cell). token_for j x.pending) (sym (get_or-set_other s.cells k j c free n))
]

-- what a begin comes to: a refusal that alters nothing, or a mark
pub record Marks (m : Meaning) (s : State) (i : Interval) (step : Step) : Type 0 where
  pub place : ℕ
  pub cell : Cell
  pub is : step ≡ record { report = began place i; state = with_cell s place cell }
  pub pending : cell.pending ≡ Some i
  pub agrees : CellAgrees m cell.owner cell

abbrev pub Declines : State → Step → Type 0
Declines s step = (n : ℕ) × (vs : List ℕ) × (step ≡ stays s (declined n vs))

module _ (m : Meaning) (s : State) (n : Name) (i : Interval) (a : Agrees m s) where
  abbrev Begins : Outcome Step → Type 0
  Begins o = Declines s (settled s o) ⊎ Marks m s i (settled s o)

  marks : (k : ℕ) → place_of s n ≡ Some k → Ready m n i → (p : Option Interval) → Begins (marked s k i (cell_at s k) p)
  marks k h r None =
      let c : Cell = record { owner = (cell_at s k).owner; copy = (cell_at s k).copy; pending = Some i } in
      let o = owned_at s n k h in
      inr (record { place = k; cell = c; is = refl; pending = refl; agrees = subst (λ (x : Option Name). CellAgrees m x c) (sym o) ((subst (λ (x : Option Name). CellAgrees m x (cell_at s k)) o (a k)).0, r) })
  marks k h r (Some j) = inl (8, [], refl)

  reserves : (k : Option ℕ) → Ready m n i → Begins (reserved s n i k)
  reserves None r = inl (9, [], refl)
  reserves (Some k) r = inr (record { place = k; cell = record { owner = Some n; copy = None; pending = Some i }; is = refl; pending = refl; agrees = (tt, r) })

  pub begin_is : Declines s (begin_step m s n i) ⊎ Marks m s i (begin_step m s n i)
  begin_is =
      cond_both (is_name n.bytes) _ _ Begins
      (λ name. cond_both (within i era) _ _ Begins
      (λ in_era. cond_both (within i m.span) _ _ Begins
      (λ inside. by_option (place_of s n) (λ o. Begins (begun s n i o)) (λ _. reserves (position is_free s.cells) (record { name = name; in_era = in_era; inside = inside })) (λ k h. marks k h (record { name = name; in_era = in_era; inside = inside }) (cell_at s k).pending))
      (λ _. inl (3, [], refl)))
      (λ _. inl (2, [], refl)))
      (λ _. inl (1, [], refl))

-- what a collect comes to: a refusal that alters nothing, or a copy
pub record Holds (s : State) (k : ℕ) (step : Step) : Type 0 where
  pub edition : ℕ
  pub cell : Cell
  pub is : step ≡ record { report = collected edition; state = record { cells = set s.cells k cell; floor = edition } }
  pub pending : cell.pending ≡ None

abbrev pub HandsBack : State → Step → Type 0
HandsBack s step = (n : ℕ) × (vs : List ℕ) × (k : ℕ) × (i : Interval) × (step ≡ stays s (handed_back n vs k i))

pub collect_is : (s : State) (k : ℕ) (i : Interval) (e : ℕ) (page : Option Page) → HandsBack s (collected_at s k i e page) ⊎ Holds s k (collected_at s k i e page)
collect_is s k i e page =
    let P : Step → Type 0 = λ x. HandsBack s x ⊎ Holds s k x in
    cond_both (eqb e 0) _ _ P (λ _. inl (4, [], k, i, refl)) (λ _. cond_both (ltb e s.floor) _ _ P (λ _. inl (7, e ∷ [], k, i, refl)) (λ _. by_option page (λ o. P (taken s k i e o)) (λ _. inl (5, e ∷ [], k, i, refl)) (λ p _. cond_both (leb (length (cut p.rows i)) window_rows) _ _ P (λ _. inr (record { edition = e; cell = _; is = refl; pending = refl })) (λ _. inl (6, e ∷ [], k, i, refl)))))

-- the slot of a pending fetch that is at hand
pub pending_same : (i : Interval) → is_pending (Some i) i ≡ true
pending_same i = (decides_interval i i).1 refl

pub record AtHand (s : State) (k : ℕ) (p : PendingFetch) : Type 0 where
  pub interval : Interval
  pub marked : (cell_at s k).pending ≡ Some interval
  pub token : p ≡ record { slot = k; interval = interval; spent = false }

pub at_hand : (tokens : List (Option PendingFetch)) (s : State) (k : ℕ) (p : PendingFetch) → k < 16 → Some p ≡ get_or tokens k None → Matches tokens s → AtHand s k p
at_hand tokens s k p l h t = go (cell_at s k).pending refl (h ∙ t k l)
  where
    go : (o : Option Interval) → (cell_at s k).pending ≡ o → Some p ≡ token_for k o → AtHand s k p
    go None q e = clash (cc)
    go (Some i) q e = record { interval = i; marked = q; token = cc }

-- a collect by the zone is the collect of its slot
pub collect_by_place : (m : Meaning) (s : State) (n : Name) (k : ℕ) (i : Interval) → place_of s n ≡ Some k → (cell_at s k).pending ≡ Some i → collect_step m s n ≡ collected_at s k i (m.turn n i) (m.pages (m.turn n i) n)
collect_by_place m s n k i h p = ap (collect_place m s n) h ∙ ap (collect_pending m s n k) p

pub asked_by_place : {S : Type 0} (g : Ghosts S) (s : State) (n : Name) (k : ℕ) (i : Interval) (before after : S) → place_of s n ≡ Some k → (cell_at s k).pending ≡ Some i → Asked g s k i before after → Collects (source g) s n (place_of s n) before after
asked_by_place g s n k i before after h p a =
    let test : is_pending (cell_at s k).pending i ≡ true = ap (λ o. is_pending o i) p ∙ pending_same i in
    let asked = subst (λ (o : Option Request). MatchOption o (after ≡ before) (λ q. g.after_fetch before q after)) (request_is (cell_at s k) i n test (owned_at s n k h)) a in
    subst (λ (o : Option ℕ). Collects (source g) s n o before after) (sym h) (subst (λ (o : Option Interval). Asks (source g) n (cell_at s k).copy o before after) (sym p) asked)

-- an abandon by the zone is the abandon of its slot
pub abandon_by_place : (s : State) (n : Name) (k : ℕ) (i : Interval) → place_of s n ≡ Some k → (cell_at s k).pending ≡ Some i → abandon_step s n ≡ abandon_token s k i
abandon_by_place s n k i h p =
    let test : is_pending (cell_at s k).pending i ≡ true = ap (λ o. is_pending o i) p ∙ pending_same i in
    ap (abandon_place s) h ∙ ap (abandon_pending s k) p ∙ sym (ap (λ b. cond b (abandon_pending s k (Some i)) (stays s (handed_back 10 [] k i))) test)

-- a slot whose mark goes
pub unmarked_pending : (c : Cell) (o : Option Copy) → (unmarked c o).pending ≡ None
unmarked_pending c None = refl
unmarked_pending c (Some x) = refl

pub unmarked_agrees : (m : Meaning) (c : Cell) (o : Option Copy) → c.copy ≡ o → CellAgrees m c.owner c → CellAgrees m (unmarked c o).owner (unmarked c o)
unmarked_agrees m c None q a = (refl, refl)
unmarked_agrees m c (Some x) q a = by_owner c.owner refl
  where
    by_owner : (n : Option Name) → c.owner ≡ n → CellAgrees m n (record { owner = c.owner; copy = Some x; pending = None })
    by_owner None p = let h = (subst (λ (y : Option Name). CellAgrees m y c) p a).0 in clash (cc)
    by_owner (Some n) p = (subst (CopiedIf m n) q (subst (λ (y : Option Name). CellAgrees m y c) p a).0, tt)

-- what a forget comes to: a refusal that alters nothing, or a free cell, whose zone had no fetch pending
pub record Frees (s : State) (step : Step) : Type 0 where
  pub place : ℕ
  pub is : step ≡ record { report = forgotten; state = with_cell s place free }
  pub idle : (cell_at s place).pending ≡ None

abbrev Forgets : State → Outcome Step → Type 0
Forgets s o = Declines s (settled s o) ⊎ Frees s (settled s o)

forgets_at : (s : State) (k : ℕ) (c : Option Copy) (p : Option Interval) → (cell_at s k).pending ≡ p → Forgets s (forgotten_at s k c p)
forgets_at s k None p q = inl (11, [], refl)
forgets_at s k (Some c) (Some i) q = inl (8, [], refl)
forgets_at s k (Some c) None q = inr (record { place = k; is = refl; idle = q })

pub forget_is : (s : State) (n : Name) → Declines s (forget_step s n) ⊎ Frees s (forget_step s n)
forget_is s n =
    cond_both (is_name n.bytes) _ _ (Forgets s) (λ _. by_option (place_of s n) (λ o. Forgets s (forget_place s o)) (λ _. inl (11, [], refl)) (λ k _. forgets_at s k (cell_at s k).copy (cell_at s k).pending refl)) (λ _. inl (1, [], refl))
