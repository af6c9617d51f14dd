-- The lines of a row, put one after another. Assumes nothing.
use Rattle.std.proofs.Common.{◌≡◌, ℕ, ◌+◌, ◌≤◌, List, [], ◌∷◌, ◌++◌, length, ◌+ℤ◌, codes, refl, ap, ◌∙◌, sym, arith}
use Rattle.std.proofs.lemmas.List.{append_assoc, length-append}
use Rattle.std.proofs.lemmas.Grind.{common_steps}
use Rattle.calendar.specs.declared.dates.Seconds.{Seconds}
use Rattle.calendar.specs.declared.dates.Stamp.{Stamp}
use Rattle.calendar.specs.Calendar.{StampIs}
use Rattle.fields.specs.Offsets.{offset, printed}
use Rattle.fields.specs.Stamps.{stamp_text, StampPrintedAs}
use Rattle.fields.proofs.Shapes.{stamp_length}
use Rattle.zone.specs.declared.rows.Observance.{Observance}
use Rattle.zone.specs.declared.rows.Observance.TheVariants.{Standard, Daylight}
use Rattle.zone.specs.declared.rows.Row.{Row}
use Rattle.zonetext.specs.Reading.{component}
use Rattle.zonetext.specs.Stamps.{stamp_at}
use Rattle.zonetext.specs.Writing.{line_text, start_text, row_text}
use Rattle.zonetext.proofs.Counting.{stamp_back}
use Rattle.zonewriter.specs.declared.putting.Writer.{Writer}
use Rattle.zonewriter.specs.Puts.{Puts}
use Rattle.zonewriter.proofs.Placing.{puts_more, puts_same}

-- the stamp that was found is the stamp at those seconds
pub stamp_found : (at : Seconds) (d : Stamp) (bytes : List ℕ) → StampIs at d → StampPrintedAs d bytes → bytes ≡ stamp_text (stamp_at at.0)
stamp_found at d bytes s p = p.text ∙ ap stamp_text (sym (stamp_back d s.valid) ∙ ap stamp_at s.value)

pub component_length : (o : Observance) → length (component o) ≡ 8
component_length Standard = refl
component_length Daylight = refl

pub row_text_length : (r : Row) → length (row_text r) ≡ 83 + length (printed (offset r.from)) + length (printed (offset r.to))
unfolding row_text
row_text_length r = grind (arith, common_steps, component_length, stamp_length)

-- for the room of each line
pub ruleset row_lengths = (row_text_length, component_length, length-append)

-- k, s, p and q are the values of the lines, as the code has them
pub row_put : (row : Row) (k s p q : List ℕ) → k ≡ component row.observance → s ≡ start_text row → p ≡ printed (offset row.from) → q ≡ printed (offset row.to) → {a b c d e f : Writer} → a.len ≤ length a.buffer.now
    → Puts a (line_text (codes "BEGIN") k) b → Puts b (line_text (codes "DTSTART") s) c → Puts c (line_text (codes "TZOFFSETFROM") p) d → Puts d (line_text (codes "TZOFFSETTO") q) e → Puts e (line_text (codes "END") k) f → Puts a (row_text row) f
unfolding row_text
row_put row k s p q is-k is-s is-p is-q h x y z u v =
    let i = line_text (codes "BEGIN") k in
    let j = line_text (codes "DTSTART") s in
    let l = line_text (codes "TZOFFSETFROM") p in
    let m = line_text (codes "TZOFFSETTO") q in
    let n = line_text (codes "END") k in
    let joined : (((i ++ j) ++ l) ++ m) ++ n ≡ i ++ (j ++ (l ++ (m ++ n))) = append_assoc ((i ++ j) ++ l) m n ∙ append_assoc (i ++ j) l (m ++ n) ∙ append_assoc i j (l ++ (m ++ n)) in
    let same : i ++ (j ++ (l ++ (m ++ n))) ≡ row_text row = (λ t. line_text (codes "BEGIN") (is-k t) ++ (line_text (codes "DTSTART") (is-s t) ++ (line_text (codes "TZOFFSETFROM") (is-p t) ++ (line_text (codes "TZOFFSETTO") (is-q t) ++ line_text (codes "END") (is-k t))))) in
    puts_same (joined ∙ same) (puts_more h (puts_more h (puts_more h (puts_more h x y) z) u) v)
