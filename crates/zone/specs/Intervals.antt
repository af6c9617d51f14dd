-- Intervals of instants. Assumes nothing.
use Rattle.std.specs.Prelude.{Bool, ◌&&◌, ℤ, pos, negsuc, int_le, int_lt}
use Rattle.zone.specs.declared.rows.Interval.{Interval}

-- from 1900-01-01T00:00:00Z on, and before 2100-01-01T00:00:00Z
abbrev pub era : Interval
era = record { start = negsuc 2208988799; end = pos 4102444800 }

-- the same number
abbrev pub same_number : ℤ → ℤ → Bool
same_number a b = int_le a b && int_le b a

-- the same interval
abbrev pub same_interval : Interval → Interval → Bool
same_interval a b = same_number a.start b.start && same_number a.end b.end

-- the interval rises, and lies in the outer one
abbrev pub within : Interval → Interval → Bool
within inner outer = int_le outer.start inner.start && (int_lt inner.start inner.end && int_le inner.end outer.end)

-- the instant lies in the interval
abbrev pub has_instant : Interval → ℤ → Bool
has_instant i t = int_le i.start t && int_lt t i.end
