-- The lines before and after the rows, and the rows one after another. Assumes nothing.
use Rattle.std.proofs.Common.{◌≡◌, ℕ, ◌+◌, ◌<◌, ◌≤◌, List, [], ◌∷◌, ◌++◌, length, get_or, take, drop, ℤ, codes, sym, refl, ap, ◌∙◌, arith}
use Rattle.std.specs.List.{flat_map}
use Rattle.std.proofs.lemmas.List.{append_assoc, length-append, take-append-drop, take_more, flat_map_more}
use Rattle.std.proofs.lemmas.Grind.{common_steps}
use Rattle.fields.proofs.Shapes.{stamp_length}
use Rattle.zone.specs.declared.rows.Row.{Row}
use Rattle.names.specs.Names.{spelled}
use Rattle.zonetext.specs.Reading.{Zone}
use Rattle.zonetext.specs.Writing.{line_text, until_text, row_text, head_text, tail_text, text_of}

-- rows, one after another
pub rows_more : (rs : List Row) (i : ℕ) (d : Row) → i < length rs → flat_map row_text (take (i + 1) rs) ≡ flat_map row_text (take i rs) ++ row_text (get_or rs i d)
rows_more rs i d h = ap (flat_map row_text) (take_more rs i d h) ∙ sym (flat_map_more row_text [] (take i rs) (get_or rs i d))

-- the three lines of the head
pub head_lines : (n : List ℕ) (u : ℤ) (v : List ℕ) → v ≡ until_text u → (line_text (codes "BEGIN") (codes "VTIMEZONE") ++ line_text (codes "TZID") n) ++ line_text (codes "TZUNTIL") v ≡ head_text n u
unfolding head_text
head_lines n u v e = append_assoc (line_text (codes "BEGIN") (codes "VTIMEZONE")) (line_text (codes "TZID") n) (line_text (codes "TZUNTIL") v) ∙ ap (λ x. line_text (codes "BEGIN") (codes "VTIMEZONE") ++ (line_text (codes "TZID") n ++ line_text (codes "TZUNTIL") x)) e

pub head_length : (n : List ℕ) (u : ℤ) → length (head_text n u) ≡ 50 + length n
unfolding head_text
head_length n u = grind (arith, common_steps, stamp_length)

-- for the room of each line
pub ruleset head_lengths = (head_length, length-append)

pub tail_is : tail_text ≡ line_text (codes "END") (codes "VTIMEZONE")
unfolding tail_text
tail_is = refl

-- the whole text
pub text_length : (z : Zone) → length (text_of z) ≡ 65 + length (spelled z.name) + length (flat_map row_text z.rows)
unfolding tail_text
text_length z = grind (arith, common_steps, head_length)
