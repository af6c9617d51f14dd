-- What a call does to one slot, whatever client the slot stands in. Assumes nothing.
use Rattle.std.specs.Prelude.{◌≡◌, ℕ, Ok, Err, Result, slice_set}
use Rattle.zone.specs.declared.refusals.Refusal.{Refusal}
use Rattle.zone.specs.declared.rows.Interval.{Interval}
use Rattle.zone.specs.Refusals.{number, values}
use Rattle.history.specs.Cells.{Cell, State, cell_at, with_cell}
use Rattle.history.specs.Steps.{Report, began, declined, Step, settled, marked}
use Rattle.slots.specs.Taking.{taken_report}
use Rattle.slots.specs.Told.{ComesTo}

-- the step at a slot comes to the report, and turns the old cell into the new one
abbrev pub TurnsTo : (State → ℕ → Step) → (ℕ → Report) → Cell → Cell → Type 0
TurnsTo step report old new = (s : State) (k : ℕ) → cell_at s k ≡ old → ComesTo (step s k) (report k) (with_cell s k new)

-- the slot of a zone is marked pending, or refused
abbrev pub marked_at : State → ℕ → Interval → Step
marked_at s k i = settled s (marked s k i (cell_at s k) (cell_at s k).pending)

abbrev pub mark_report : Result (Unit {0}) Refusal → ℕ → Interval → Report
mark_report (Ok done) k i = began k i
mark_report (Err r) k i = declined (number r) (values r)

-- the floor after a reply: the edition that was accepted, or as it was
abbrev pub floor_by : Result ℕ Refusal → ℕ → ℕ
floor_by (Ok e) floor = e
floor_by (Err r) floor = floor

-- the same of a reply, which may raise the floor
abbrev pub Accepts : (State → ℕ → Step) → Result ℕ Refusal → Interval → ℕ → Cell → Cell → Type 0
Accepts step result i floor old new = (s : State) (k : ℕ) → s.floor ≡ floor → cell_at s k ≡ old → ComesTo (step s k) (taken_report result k i) (record { cells = slice_set s.cells k new; floor = floor_by result floor })
