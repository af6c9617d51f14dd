-- The facts of a table as a test, place by place. Assumes nothing.
use Rattle.std.specs.Prelude.{ℕ, zero, suc, ◌+◌, ◌-◌, Bool, true, ◌&&◌, List, length, ℤ, pos, negsuc, int_le, int_lt, nat_le, nat_lt}
use Rattle.zone.specs.declared.rows.Interval.{Interval}
use Rattle.zone.specs.declared.rows.Row.{Row}
use Rattle.zone.specs.Intervals.{era, same_interval, same_number, within}
use Rattle.zone.specs.Rows.{at, table_rows}

-- the test passes at each number below n
abbrev pub each_below : ℕ → (ℕ → Bool) → Bool
each_below zero test = true
each_below (suc n) test = test n && each_below n test

-- the offset is in range
abbrev pub small : ℤ → Bool
small z = int_le (negsuc 86398) z && int_le z (pos 86399)

-- the next row begins after the row, and takes its `from` over from that row's `to`
abbrev pub follows : Row → Row → Bool
follows row next = int_lt row.onset next.onset && same_number next.from row.to

-- the row at k + 1 follows the row at k
abbrev pub joined_at : List Row → ℕ → Bool
joined_at rows k = follows (at rows k) (at rows (k + 1))

-- both offsets of the row are in range
abbrev pub small_row : Row → Bool
small_row row = small row.from && small row.to

-- both offsets of the row at k are in range
abbrev pub small_at : List Row → ℕ → Bool
small_at rows k = small_row (at rows k)

-- the rows cover the interval
abbrev pub cover : Interval → List Row → Bool
cover i rows = (nat_lt 0 (length rows) && same_number (at rows 0).onset i.start) && (each_below (length rows - 1) (joined_at rows) && (int_lt (at rows (length rows - 1)).onset i.end && each_below (length rows) (small_at rows)))

-- the rows are those of a table over the interval
abbrev pub is_table : Interval → List Row → Bool
is_table i rows = within i era && (cover i rows && nat_le (length rows) table_rows)

-- the rows are those of a table over the whole era
abbrev pub is_era_table : Interval → List Row → Bool
is_era_table i rows = same_interval i era && is_table i rows
