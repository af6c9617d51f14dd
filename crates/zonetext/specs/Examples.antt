-- Worked examples. Assumes nothing.
use Rattle.std.specs.Prelude.{◌≡◌, ℕ, List, [], ◌∷◌, ◌++◌, ℤ, pos, Some, codes, Option}
use Rattle.std.specs.Option.{option_map, option_and_then}
use Rattle.fields.specs.Offsets.{parsed}
use Rattle.zone.specs.declared.rows.Observance.TheVariants.{Standard, Daylight}
use Rattle.names.specs.Names.{held}
use Rattle.zonetext.specs.Laws.{ReadsAs}
use Rattle.zonetext.specs.Reading.{Zone, between, zone, row_of, fails, reading}
use Rattle.zonetext.specs.Values.{start_read}

-- the onset that a DTSTART value and a TZOFFSETFROM value say together
abbrev pub onset_said : List ℕ → List ℕ → Option ℤ
onset_said start from = option_and_then (λ d. option_map (λ x. (row_of Daylight d x x).onset) (parsed from)) (start_read start)

-- lines, each with its CR LF
abbrev pub lines_text : List (List ℕ) → List ℕ
lines_text [] = []
lines_text (l ∷ ls) = l ++ 13 ∷ 10 ∷ lines_text ls

-- the lines of a row
abbrev pub row_said : List ℕ → List ℕ → List ℕ → List ℕ → List (List ℕ)
row_said o d x y = (codes "BEGIN:" ++ o) ∷ (codes "DTSTART:" ++ d) ∷ (codes "TZOFFSETFROM:" ++ x) ∷ (codes "TZOFFSETTO:" ++ y) ∷ (codes "END:" ++ o) ∷ []

-- the lines before the rows
abbrev pub paris_head : List (List ℕ)
paris_head = codes "BEGIN:VTIMEZONE" ∷ codes "TZID:Europe/Paris" ∷ codes "TZUNTIL:20250101T000000Z" ∷ []

-- Paris from the spring of 2024 to the end of that year
abbrev pub paris_text : List ℕ
paris_text = lines_text (paris_head ++ (row_said (codes "DAYLIGHT") (codes "20240331T020000") (codes "+0100") (codes "+0200") ++ (row_said (codes "STANDARD") (codes "20241027T030000") (codes "+0200") (codes "+0100") ++ (codes "END:VTIMEZONE" ∷ []))))

-- the name and the window that it says
abbrev pub paris : Zone
paris = zone (held (codes "Europe/Paris")) (between (pos 1711846800) (pos 1735689600)) (record { onset = pos 1711846800; from = pos 3600; to = pos 7200; observance = Daylight } ∷ record { onset = pos 1729990800; from = pos 7200; to = pos 3600; observance = Standard } ∷ [])

-- the same with a second row that does not go on from the first
abbrev pub broken_text : List ℕ
broken_text = lines_text (paris_head ++ (row_said (codes "DAYLIGHT") (codes "20240331T020000") (codes "+0100") (codes "+0200") ++ (row_said (codes "STANDARD") (codes "20241027T030000") (codes "+0300") (codes "+0100") ++ (codes "END:VTIMEZONE" ∷ []))))

-- worked examples: an onset, a whole text, and texts that fail
pub record Worked : Type 0 where
  pub onset : onset_said (codes "20240331T020000") (codes "+0100") ≡ Some (pos 1711846800)
  pub whole : ReadsAs paris_text paris
  pub empty : reading [] ≡ fails 0
  pub early : reading (codes "BEGIN:VTIMEZONE") ≡ fails 15
  pub no_rows : reading (lines_text (paris_head ++ (codes "END:VTIMEZONE" ∷ []))) ≡ fails 62
  pub more_bytes : reading (paris_text ++ codes "X") ≡ fails 263
  pub broken : reading broken_text ≡ fails 234
