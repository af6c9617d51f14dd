-- How many rows a zone text has. Assumes nothing.
use Rattle.std.specs.Prelude.{ℕ, length}
use Rattle.zone.specs.Refusals.{Outcome, answered, refused}
use Rattle.zonetext.specs.Reading.{Zone}

-- how many rows the zone has that a text reads as; 0 where the text is refused
abbrev pub rows_of : Outcome Zone → ℕ
rows_of (answered z) = length z.rows
rows_of (refused k vs) = 0
