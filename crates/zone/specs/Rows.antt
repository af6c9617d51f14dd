-- What the rows of a table or a window must keep, place by place. Assumes nothing.
use Rattle.std.specs.Prelude.{◌≡◌, ℕ, ◌+◌, ◌-◌, ◌<◌, ◌≤◌, true, List, length, ℤ, pos, negsuc, ◌≤ℤ◌, ◌<ℤ◌, slice_index_or}
use Rattle.zone.specs.declared.rows.Interval.{Interval}
use Rattle.zone.specs.declared.rows.Row.{Row}
use Rattle.zone.specs.declared.rows.Observance.TheVariants.{Standard}
use Rattle.zone.specs.Intervals.{era, within}

-- how many rows a window, and a table, may have
abbrev pub window_rows : ℕ
window_rows = 64

abbrev pub table_rows : ℕ
table_rows = 512

-- the row that stands where there is none
abbrev pub no_row : Row
no_row = record { onset = pos 0; from = pos 0; to = pos 0; observance = Standard }

-- UTC, from the start of the era on
abbrev pub utc : Row
utc = record { onset = era.start; from = pos 0; to = pos 0; observance = Standard }

-- the row at place k
abbrev pub at : List Row → ℕ → Row
at rows k = slice_index_or rows k no_row

-- an offset is less than a day, either way
abbrev pub Offset : ℤ → Type 0
Offset z = (negsuc 86398 ≤ℤ z) × (z ≤ℤ pos 86399)

-- there is a row, and the first onset is s
abbrev pub Begins : ℤ → List Row → Type 0
Begins s rows = (0 < length rows) × ((at rows 0).onset ≡ s)

-- onsets rise, and each row's `from` is the `to` of the row before
abbrev pub Joined : List Row → Type 0
Joined rows = (k : ℕ) → k + 1 < length rows → ((at rows k).onset <ℤ (at rows (k + 1)).onset) × ((at rows (k + 1)).from ≡ (at rows k).to)

-- the last onset is before e
abbrev pub Ends : ℤ → List Row → Type 0
Ends e rows = (at rows (length rows - 1)).onset <ℤ e

-- all offsets are in range
abbrev pub Small : List Row → Type 0
Small rows = (k : ℕ) → k < length rows → Offset (at rows k).from × Offset (at rows k).to

-- the rows cover the interval: every instant of it has its row
pub record Covers (i : Interval) (rows : List Row) : Type 0 where
  pub begins : Begins i.start rows
  pub joined : Joined rows
  pub ends : Ends i.end rows
  pub small : Small rows

-- the rows cover an interval of the era, and there are at most so many
pub record Sound (most : ℕ) (i : Interval) (rows : List Row) : Type 0 where
  pub in_era : within i era ≡ true
  pub covers : Covers i rows
  pub few : length rows ≤ most
