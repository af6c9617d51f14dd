-- What a client's cells and floor say of the history that led to them. Assumes nothing.
use Rattle.std.proofs.Common.{◌≡◌, ℕ, ◌≤◌, true, ◌⊎◌, Some, None, Option}
use Rattle.std.specs.Option.{option_map}
use Rattle.names.specs.declared.name.Name.{Name}
use Rattle.zone.specs.declared.rows.Interval.{Interval}
use Rattle.zone.specs.Intervals.{within}
use Rattle.names.specs.Names.{is_name}
use Rattle.cutting.specs.Cutting.{cut}
use Rattle.provider.specs.Meaning.{Meaning, Page}
use Rattle.history.specs.Cells.{Copy, Cell, State}
use Rattle.history.specs.Histories.{History, SomeMoment}
use Rattle.history.specs.Promises.{Accepted, Names, Accepts, pending_by, held_by, pending_in, latest_in, held_in}
use Rattle.history.specs.Steps.{Report, began, collected, abandoned, forgotten, told, announced, declined, handed_back, not_pending}
use Rattle.history.proofs.Places.{owned, Apart, Put}

-- a copy as an accepted collect
abbrev pub seen : Copy → Accepted
seen c = record { edition = c.edition; interval = c.interval }

-- the fact of what an option holds
abbrev pub IfSome : {X : Type 0} → (X → Type 0) → Option X → Type 0
IfSome P None = Unit {0}
IfSome P (Some x) = P x

-- the interval of a pending fetch is inside the span, and the zone's name is one
pub record Wanted (m : Meaning) (n : Name) (i : Interval) : Type 0 where
  pub name : is_name n.bytes ≡ true
  pub inside : within i m.span ≡ true

-- a copy is the cut of the record's page at its edition
pub record Kept (m : Meaning) (floor : ℕ) (n : Name) (c : Copy) : Type 0 where
  pub wanted : Wanted m n c.interval
  pub high : c.edition ≤ floor
  pub page : Page
  pub paged : m.pages c.edition n ≡ Some page
  pub rows : c.rows ≡ cut page.rows c.interval

pub record Good (m : Meaning) (floor : ℕ) (n : Name) (c : Cell) : Type 0 where
  pub wanted : IfSome (Wanted m n) c.pending
  pub kept : IfSome (Kept m floor n) c.copy

-- an edition is no higher than that of the latest accepted collect, which there is
abbrev pub Reached : ℕ → Option Accepted → Type 0
Reached f None = ⊥
Reached f (Some a) = f ≤ a.edition

-- a zone's cell, against what its history says
pub record Zone (m : Meaning) (floor : ℕ) (n : Name) (c : Cell) (pending : Option Interval) (latest held : Option Accepted) (Named : ℕ → Type 0) : Type 0 where
  pub good : Good m floor n c
  pub pending_is : c.pending ≡ pending
  pub held_is : option_map seen c.copy ≡ held
  pub latest_is : (a : Accepted) → held ≡ Some a → latest ≡ Some a
  pub latest_low : (a : Accepted) → latest ≡ Some a → a.edition ≤ floor
  pub named : (f : ℕ) → Named f → Reached f latest

-- a client after a history, where the provider means m
pub record Tracks {S : Type 0} (m : Meaning) (h : History S) (s : State) : Type 0 where
  pub apart : Apart s.cells
  pub zones : (n : Name) → Zone m s.floor n (owned s.cells n) (pending_in h n) (latest_in h n) (held_in h n) (λ f. SomeMoment (Names n f) h)
  pub accepts_low : (f : ℕ) → SomeMoment (Accepts f) h → f ≤ s.floor
  pub reached : (s.floor ≡ 0) ⊎ SomeMoment (Accepts s.floor) h

-- the floor after an outcome, and what the outcome came from
abbrev pub Floors : Report → Option Interval → Option Accepted → ℕ → ℕ → Type 0
Floors (began k i) pending held floor after = after ≡ floor
Floors (collected e) pending held floor after = (after ≡ e) × (floor ≤ e) × ((i : Interval) × (pending ≡ Some i))
Floors abandoned pending held floor after = after ≡ floor
Floors forgotten pending held floor after = after ≡ floor
Floors (told e l) pending held floor after = (after ≡ floor) × ((i : Interval) × (held ≡ Some (record { edition = e; interval = i })))
Floors (announced e) pending held floor after = after ≡ floor
Floors (declined n vs) pending held floor after = after ≡ floor
Floors (handed_back n vs k i) pending held floor after = after ≡ floor
Floors not_pending pending held floor after = after ≡ floor

-- what a call about the zone z that came to r did
pub record Moved (m : Meaning) (s after : State) (z : Name) (r : Report) : Type 0 where
  pub cell : Cell
  pub put : Put s.cells after.cells z cell
  pub good : Good m after.floor z cell
  pub pending : cell.pending ≡ pending_by r (owned s.cells z).pending
  pub held : option_map seen cell.copy ≡ held_by r (owned s.cells z).pending (option_map seen (owned s.cells z).copy)
  pub floors : Floors r (owned s.cells z).pending (option_map seen (owned s.cells z).copy) s.floor after.floor
