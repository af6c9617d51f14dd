-- The cells of the slots, one by one. Assumes nothing.
use Rattle.std.proofs.Common.{◌≡◌, ℕ, suc, ◌+◌, ◌<◌, Bool, cond, not, List, [], ◌∷◌, length, map, position, get_or, replicate, set, Result, sym, refl, ap, ◌∙◌, subst, arith}
use Rattle.std.proofs.lemmas.List.{get_or-map, length-map, map-set}
use Rattle.std.specs.List.{position_or_len}
use Rattle.std.specs.Vec.{with_item}
use Rattle.zone.specs.declared.rows.Interval.{Interval}
use Rattle.zone.specs.declared.refusals.Refusal.{Refusal}
use Rattle.history.specs.Cells.{Cell, State, free, cell_at, with_cell}
use Rattle.history.specs.Steps.{Report, Step}
use Rattle.slots.specs.declared.slot.Slot.{Slot}
use Rattle.slots.specs.declared.slot.Slots.{Slots}
use Rattle.slots.specs.Seeing.{cell_of, cells_of, state_of}
use Rattle.slots.specs.Taking.{taken_report}
use Rattle.slots.specs.Told.{ComesTo}
use Rattle.slots.specs.Turning.{TurnsTo, Accepts, floor_by}

-- the cell at a place is that of the slot there
pub cell_there : (s : Slots) (i : ℕ) (slot : Slot) → i < 16 → slot ≡ get_or s.slots.items i slot → cell_at (state_of s) i ≡ cell_of slot
cell_there s i slot l h = get_or-map cell_of s.slots.items i slot free (omega (arith, s.slots.ok.0, s.all)) ∙ ap cell_of (sym h)

pub cells_length : (s : Slots) → length (cells_of s) ≡ 16
cells_length s = length-map s.slots.items cell_of ∙ omega (arith, s.slots.ok.0, s.all)

-- a slot is put in the place of another
abbrev pub with_slot : Slots → ℕ → Slot → Slots
with_slot s i new = record { slots = with_item s.slots i new; floor = s.floor; all = s.all }

pub turned : (s : Slots) (i : ℕ) (new : Slot) → state_of (with_slot s i new) ≡ with_cell (state_of s) i (cell_of new)
turned s i new = ap (λ cs. record { cells = cs; floor = s.floor }) (map-set cell_of s.slots.items i new)

-- a step at the slot that was lent is the client's
pub steps : (s : Slots) (i : ℕ) (old new : Slot) (step : State → ℕ → Step) (report : ℕ → Report) → i < 16 → old ≡ get_or s.slots.items i old → TurnsTo step report (cell_of old) (cell_of new) → ComesTo (step (state_of s) i) (report i) (state_of (with_slot s i new))
steps s i old new step report l h t = t (state_of s) i (cell_there s i old l h) ∙ ap (λ x. record { report = report i; state = x }) (sym (turned s i new))

-- a search of the cells is one of the slots
first_map : (test : Cell → Bool) (slots : List Slot) → position_or_len test (map cell_of slots) ≡ position_or_len (λ slot. test (cell_of slot)) slots
first_map test [] = refl
first_map test (x ∷ xs) = ap (λ n. cond (not (test (cell_of x))) (1 + n) 0) (first_map test xs)

pub position_map : (test : Cell → Bool) (s : Slots) → position (λ slot. test (cell_of slot)) s.slots.items ≡ position test (cells_of s)
position_map test s = simp (first_map, length-map)

-- the same of a reply, after which the floor may be another
pub accepts : (s : Slots) (i : ℕ) (old new : Slot) (step : State → ℕ → Step) (r : Result ℕ Refusal) (interval : Interval) → i < 16 → old ≡ get_or s.slots.items i old → Accepts step r interval s.floor (cell_of old) (cell_of new) → ComesTo (step (state_of s) i) (taken_report r i interval) (record { cells = map cell_of (set s.slots.items i new); floor = floor_by r s.floor })
accepts s i old new step r interval l h t = t (state_of s) i refl (cell_there s i old l h) ∙ ap (λ cs. record { report = taken_report r i interval; state = record { cells = cs; floor = floor_by r s.floor } }) (sym (map-set cell_of s.slots.items i new))

-- free slots
pub all_free : (xs : List Slot) (n : ℕ) → length xs ≡ n → ((i : ℕ) → i < n → (d : Slot) → cell_of (get_or xs i d) ≡ free) → map cell_of xs ≡ replicate n free
all_free xs n long made = subst (λ k. map cell_of xs ≡ replicate k free) long (each xs (λ i l. made i (omega arith)))
  where
    each : (ys : List Slot) → ((i : ℕ) → i < length ys → (d : Slot) → cell_of (get_or ys i d) ≡ free) → map cell_of ys ≡ replicate (length ys) free
    each [] h = refl
    each (y ∷ ys) h =
        let first = h 0 (omega arith) y in
        let rest = each ys (λ i l. h (suc i) (omega arith)) in
        cc
