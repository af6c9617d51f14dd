-- The row in force, the local time, and the cut. Assumes nothing.
use Rattle.std.specs.Prelude.{Bool, cond, ◌&&◌, List, [], ◌∷◌, ℤ, ◌+ℤ◌, fold, filter, int_le, int_lt}
use Rattle.zone.specs.declared.rows.Interval.{Interval}
use Rattle.zone.specs.declared.rows.Row.{Row}
use Rattle.zone.specs.Rows.{no_row}
use Rattle.cutting.specs.declared.locals.Local.{Local}

-- the next row, if it has begun at t, else the row at hand
abbrev pub later : ℤ → Row → Row → Row
later t row next = cond (int_le next.onset t) next row

-- the row in force at t: the last one whose onset is not later
abbrev pub in_force : List Row → ℤ → Row
in_force [] t = no_row
in_force (first ∷ rest) t = fold (later t) first rest

-- the local time at t by a row, with its offset and observance
abbrev pub by_row : Row → ℤ → Local
by_row row t = record { time = t +ℤ row.to; offset = row.to; observance = row.observance }

-- the local time at t: by the row in force
abbrev pub local : List Row → ℤ → Local
local rows t = by_row (in_force rows t) t

-- a row as the first of a cut at s: a change that came before s is no change at s
abbrev pub opening : ℤ → Row → Row
opening s row = record { onset = s; from = cond (int_lt row.onset s) row.to row.from; to = row.to; observance = row.observance }

-- the row begins after the interval does, and before it ends
abbrev pub begins_inside : Interval → Row → Bool
begins_inside i row = int_lt i.start row.onset && int_lt row.onset i.end

-- the cut to an interval: the row in force at its start, and the rows that begin inside
abbrev pub cut : List Row → Interval → List Row
cut rows i = opening i.start (in_force rows i.start) ∷ filter (begins_inside i) rows
