-- The values of the dated lines: a row's onset in local time, and the window's end. Assumes nothing.
use Rattle.std.specs.Prelude.{ℕ, if◌then◌else◌, ◌&&◌, List, length, take, drop, Some, None, codes, Option, ◌==◌, int_le, int_lt}
use Rattle.std.specs.Option.{option_map, option_and_then}
use Rattle.std.specs.Str.{bytes_eq}
use Rattle.calendar.specs.declared.dates.Seconds.{Seconds}
use Rattle.calendar.specs.declared.dates.Stamp.{Stamp}
use Rattle.calendar.specs.Calendar.{seconds}
use Rattle.fields.specs.Stamps.{stamp_read}
use Rattle.zone.specs.declared.rows.Instant.{Instant}
use Rattle.zone.specs.Intervals.{era}

-- the seconds of a stamp
abbrev pub clocked : Stamp → Seconds
clocked d = record { 0 = seconds d }

-- the local time that a text says
unfoldable pub start_read : List ℕ → Option Seconds
start_read t = option_map clocked (stamp_read t)

-- the end of a window, if some window can end there: after the era's start, and not after its end
abbrev pub until_at : Seconds → Option Instant
until_at s = if int_lt era.start s.0 && int_le s.0 era.end then Some (record { 0 = s.0 }) else None

-- the end of a window that a text says: a time, and the letter Z for UTC
unfoldable pub until_read : List ℕ → Option Instant
until_read t = if length t == 16 && bytes_eq (drop 15 t) (codes "Z") then option_and_then until_at (start_read (take 15 t)) else None
