-- When what a client holds agrees with its provider. Assumes nothing.
use Rattle.std.specs.Prelude.{◌≡◌, ℕ, true, Some, None, Option}
use Rattle.names.specs.declared.name.Name.{Name}
use Rattle.zone.specs.declared.rows.Interval.{Interval}
use Rattle.zone.specs.Intervals.{era, within}
use Rattle.names.specs.Names.{is_name}
use Rattle.provider.specs.Holding.{FromPage}
use Rattle.provider.specs.Meaning.{Meaning}
use Rattle.history.specs.Cells.{Copy, Cell, State, cell_at}

-- the copy is from the record: the cut of the page of its edition, with its tag
abbrev pub Copied : Meaning → Name → Copy → Type 0
Copied m n c = FromPage m n c.edition c.tag c.interval c.rows

-- a fetch of the zone over the interval passes the first three checks
pub record Ready (m : Meaning) (n : Name) (i : Interval) : Type 0 where
  pub name : is_name n.bytes ≡ true
  pub in_era : within i era ≡ true
  pub inside : within i m.span ≡ true

abbrev pub CopiedIf : Meaning → Name → Option Copy → Type 0
CopiedIf m n None = Unit {0}
CopiedIf m n (Some c) = Copied m n c

abbrev pub ReadyIf : Meaning → Name → Option Interval → Type 0
ReadyIf m n None = Unit {0}
ReadyIf m n (Some i) = Ready m n i

-- a cell without an owner holds nothing; one with an owner holds what the record has, and its pending fetch may be made
abbrev pub CellAgrees : Meaning → Option Name → Cell → Type 0
CellAgrees m None c = (c.copy ≡ None) × (c.pending ≡ None)
CellAgrees m (Some n) c = CopiedIf m n c.copy × ReadyIf m n c.pending

abbrev pub Agrees : Meaning → State → Type 0
Agrees m s = (k : ℕ) → CellAgrees m (cell_at s k).owner (cell_at s k)
