-- What a client holds goes on agreeing with its provider. Assumes nothing.
use Rattle.std.proofs.Common.{◌≡◌, ℕ, true, cond, eqb, ltb, leb, List, [], ◌∷◌, length, get_or, set, Some, None, Option, sym, refl, ap, ◌∙◌, subst, inl, inr, arith}
use Rattle.std.proofs.lemmas.List.{get_or-set_same, get_or-set_other, set_past}
use Rattle.std.proofs.lemmas.Bool.{cases_eq, cases_lt, cond_both}
use Rattle.names.specs.declared.name.Name.{Name}
use Rattle.zone.specs.declared.rows.Interval.{Interval}
use Rattle.zone.specs.Intervals.{within}
use Rattle.zone.specs.Rows.{window_rows}
use Rattle.cutting.specs.Cutting.{cut}
use Rattle.provider.specs.Meaning.{Meaning, Page, Keeps, Sound}
use Rattle.provider.proofs.Held.{held_on}
use Rattle.history.specs.Cells.{Copy, Cell, State, free, cell_at}
use Rattle.history.specs.Steps.{stays, handed_back, accepted, taken, collected_at}
use Rattle.client.specs.Agreeing.{Ready, CopiedIf, ReadyIf, CellAgrees, Agrees}

-- nothing changes what is kept
pub keeps_same : (m : Meaning) → Keeps m m
keeps_same m = record { span = refl; grows = omega arith; same = λ e n l. refl }

-- a cell is put in the place of another
pub agrees_set : (m : Meaning) (s : State) (k floor : ℕ) (c : Cell) → CellAgrees m c.owner c → Agrees m s → Agrees m (record { cells = set s.cells k c; floor = floor })
agrees_set m s k floor c h a j = elim (cases_eq j k) [
  | inl q ↦ elim (cases_lt k (length s.cells)) [
    | inl l ↦ subst (λ (x : Cell). CellAgrees m x.owner x) (sym (ap (λ y. get_or (set s.cells k c) y free) q ∙ get_or-set_same s.cells k c free l)) h
    | inr l ↦ subst (λ (xs : List Cell). CellAgrees m (get_or xs j free).owner (get_or xs j free)) (sym (set_past s.cells k c l)) (a j)
  ]
  | inr n ↦ subst (λ (x : Cell). CellAgrees m x.owner x) (sym (get_or-set_other s.cells k j c free n)) (a j)
]

-- the record goes on
ready_on : (m m' : Meaning) (n : Name) (i : Interval) → Keeps m m' → Ready m n i → Ready m' n i
ready_on m m' n i keeps r = record { name = r.name; in_era = r.in_era; inside = subst (λ (x : Interval). within i x ≡ true) (sym keeps.span) r.inside }

copied_if_on : (m m' : Meaning) (n : Name) (c : Option Copy) → Sound m → Keeps m m' → CopiedIf m n c → CopiedIf m' n c
copied_if_on m m' n None sound keeps d = tt
copied_if_on m m' n (Some c) sound keeps d = held_on m m' n c.edition c.tag c.interval c.rows sound keeps d

ready_if_on : (m m' : Meaning) (n : Name) (i : Option Interval) → Keeps m m' → ReadyIf m n i → ReadyIf m' n i
ready_if_on m m' n None keeps r = tt
ready_if_on m m' n (Some i) keeps r = ready_on m m' n i keeps r

cell_on : (m m' : Meaning) (o : Option Name) (c : Cell) → Sound m → Keeps m m' → CellAgrees m o c → CellAgrees m' o c
cell_on m m' None c sound keeps a = a
cell_on m m' (Some n) c sound keeps a = (copied_if_on m m' n c.copy sound keeps a.0, ready_if_on m m' n c.pending keeps a.1)

pub agrees_keeps : (m m' : Meaning) (s : State) → Sound m → Keeps m m' → Agrees m s → Agrees m' s
agrees_keeps m m' s sound keeps a k = cell_on m m' (cell_at s k).owner (cell_at s k) sound keeps (a k)

-- a collect
module _ (m : Meaning) (s : State) (k : ℕ) (i : Interval) (n : Name) (owner : (cell_at s k).owner ≡ Some n) (ready : Ready m n i) (a : Agrees m s) where
  accepted_agrees : (e : ℕ) (p : Page) → m.pages e n ≡ Some p → Agrees m (accepted s k i e p).state
  accepted_agrees e p h =
      let new : Cell = record { owner = (cell_at s k).owner; copy = Some (record { edition = e; tag = p.tag; interval = i; rows = cut p.rows i }); pending = None } in
      agrees_set m s k e new (subst (λ (o : Option Name). CellAgrees m o new) (sym owner) (record { page = p; paged = h; tagged = refl; is_cut = refl; inside = ready.inside }, tt)) a

  taken_agrees : (e : ℕ) (page : Option Page) → m.pages e n ≡ page → Agrees m (taken s k i e page).state
  taken_agrees e None h = a
  taken_agrees e (Some p) h = cond_both (leb (length (cut p.rows i)) window_rows) (accepted s k i e p) (stays s (handed_back 6 (e ∷ []) k i)) (λ x. Agrees m x.state) (λ _. accepted_agrees e p h) (λ _. a)

  pub collected_agrees : Agrees m (collected_at s k i (m.turn n i) (m.pages (m.turn n i) n)).state
  collected_agrees =
      let e = m.turn n i in
      cond_both (eqb e 0) (stays s (handed_back 4 [] k i)) (cond (ltb e s.floor) (stays s (handed_back 7 (e ∷ []) k i)) (taken s k i e (m.pages e n))) (λ x. Agrees m x.state) (λ _. a)
      (λ _. cond_both (ltb e s.floor) (stays s (handed_back 7 (e ∷ []) k i)) (taken s k i e (m.pages e n)) (λ x. Agrees m x.state) (λ _. a) (λ _. taken_agrees e (m.pages e n) refl))
