-- The text of a zone. Assumes nothing.
use Rattle.std.specs.Prelude.{◌≡◌, ℕ, true, List, [], ◌∷◌, ◌++◌, length, ℤ, ◌+ℤ◌, codes}
use Rattle.std.specs.List.{flat_map}
use Rattle.calendar.specs.Calendar.{InRange}
use Rattle.fields.specs.Offsets.{offset, printed, InDay}
use Rattle.fields.specs.Stamps.{stamp_text}
use Rattle.zone.specs.declared.rows.Row.{Row}
use Rattle.names.specs.Names.{is_name, spelled}
use Rattle.zone.specs.Rows.{Sound, window_rows}
use Rattle.zonetext.specs.Reading.{Zone, component}
use Rattle.zonetext.specs.Stamps.{stamp_at}

-- a line: its name, a colon, its value, and CR LF
abbrev pub line_text : List ℕ → List ℕ → List ℕ
line_text n v = n ++ (58 ∷ (v ++ (13 ∷ 10 ∷ [])))

-- a row's onset in the local time that ends there
abbrev pub start_text : Row → List ℕ
start_text r = stamp_text (stamp_at (r.onset +ℤ r.from))

-- the end of a window, in UTC
abbrev pub until_text : ℤ → List ℕ
until_text u = stamp_text (stamp_at u) ++ codes "Z"

-- the lines of a row
unfoldable pub row_text : Row → List ℕ
row_text r = line_text (codes "BEGIN") (component r.observance) ++ (line_text (codes "DTSTART") (start_text r) ++ (line_text (codes "TZOFFSETFROM") (printed (offset r.from)) ++ (line_text (codes "TZOFFSETTO") (printed (offset r.to)) ++ line_text (codes "END") (component r.observance))))

-- the lines before the rows
unfoldable pub head_text : List ℕ → ℤ → List ℕ
head_text n u = line_text (codes "BEGIN") (codes "VTIMEZONE") ++ (line_text (codes "TZID") n ++ line_text (codes "TZUNTIL") (until_text u))

-- the line after the rows
unfoldable pub tail_text : List ℕ
tail_text = line_text (codes "END") (codes "VTIMEZONE")

-- the text of a name and a window
abbrev pub text_of : Zone → List ℕ
text_of z = head_text (spelled z.name) z.interval.end ++ (flat_map row_text z.rows ++ tail_text)

-- a row that has a text: its onset in local time has a stamp, and its offsets are below a day
pub record Writable (r : Row) : Type 0 where
  pub local : InRange (r.onset +ℤ r.from)
  pub from_day : InDay (offset r.from)
  pub to_day : InDay (offset r.to)

-- a zone name, and the rows of a window
pub record IsZone (z : Zone) : Type 0 where
  pub long : length z.name ≡ 48
  pub named : is_name z.name ≡ true
  pub window : Sound window_rows z.interval z.rows
