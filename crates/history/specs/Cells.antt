-- The client as its rules see it: sixteen cells and a floor. Assumes nothing.
use Rattle.std.specs.Prelude.{ℕ, Bool, true, false, List, replicate, position, Some, None, Option, slice_index_or, slice_set}
use Rattle.names.specs.declared.name.Name.{Name}
use Rattle.names.specs.Comparing.{same_name}
use Rattle.zone.specs.declared.rows.Interval.{Interval}
use Rattle.zone.specs.declared.rows.Row.{Row}

-- what a cell holds of a zone: the rows of its table over an interval, from an edition and under a tag
pub record Copy : Type 0 where
  pub edition : ℕ
  pub tag : ℕ
  pub interval : Interval
  pub rows : List Row

-- a cell: the zone that owns it, what it holds of it, and the interval of the zone's pending fetch
pub record Cell : Type 0 where
  pub owner : Option Name
  pub copy : Option Copy
  pub pending : Option Interval

-- the floor is the highest edition accepted so far
pub record State : Type 0 where
  pub cells : List Cell
  pub floor : ℕ

abbrev pub free : Cell
free = record { owner = None; copy = None; pending = None }

-- a client before its first call
abbrev pub new_client : State
new_client = record { cells = replicate 16 free; floor = 0 }

abbrev pub is_owner : Name → Option Name → Bool
is_owner n None = false
is_owner n (Some owner) = same_name owner n

abbrev pub owned_by : Name → Cell → Bool
owned_by n c = is_owner n c.owner

abbrev pub has_no_owner : Option Name → Bool
has_no_owner None = true
has_no_owner (Some owner) = false

abbrev pub is_free : Cell → Bool
is_free c = has_no_owner c.owner

-- the place of the zone's cell
abbrev pub place_of : State → Name → Option ℕ
place_of s n = position (owned_by n) s.cells

abbrev pub cell_at : State → ℕ → Cell
cell_at s k = slice_index_or s.cells k free

-- the cell at a place, changed
abbrev pub with_cell : State → ℕ → Cell → State
with_cell s k c = record { cells = slice_set s.cells k c; floor = s.floor }
