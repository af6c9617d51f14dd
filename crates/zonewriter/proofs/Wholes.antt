-- The whole text in the buffer, and when it is refused. Assumes nothing.
use Rattle.std.proofs.Common.{◌≡◌, ℕ, ◌+◌, ◌<◌, ◌≤◌, All, sum_by, get_or, ⊎_elim, true, cond, ◌&&◌, leb, List, [], ◌++◌, length, take, drop, codes, sym, ap, ◌∙◌, subst, arith}
use Rattle.std.specs.List.{flat_map}
use Rattle.std.proofs.lemmas.List.{append_assoc, take_at}
use Rattle.std.proofs.lemmas.List.Concat.{length-flat_map}
use Rattle.std.proofs.lemmas.List.Sums.{sum_by-le}
use Rattle.std.proofs.ByRecursion.{All-get_or}
use Rattle.fields.specs.Offsets.{offset, printed}
use Rattle.fields.specs.declared.types.Offset.{Offset}
use Rattle.fields.proofs.Shapes.{offset_length}
use Rattle.std.proofs.lemmas.Bool.{and_from, and_right, and_parts, cond-true, cond-false, le-leb, lt-leb, leb-true}
use Rattle.names.specs.declared.name.Name.{Name}
use Rattle.zone.specs.declared.rows.Row.{Row}
use Rattle.zone.specs.declared.windows.Window.{Window}
use Rattle.names.specs.Names.{is_name, name_bytes, spelled}
use Rattle.zone.specs.Refusals.{answered, refused}
use Rattle.zone.specs.Rows.{Sound, window_rows}
use Rattle.zonetext.specs.Laws.{ReadsAs}
use Rattle.zonetext.specs.Reading.{Zone, zone_in}
use Rattle.zonetext.specs.Writing.{line_text, row_text, head_text, text_of, IsZone, Writable}
use Rattle.zonetext.proofs.Back.{back}
use Rattle.zonetext.proofs.Fitting.{rows_writable}
use Rattle.zonetext.proofs.Padding.{name_back}
use Rattle.zonewriter.specs.declared.putting.Writer.{Writer}
use Rattle.zonewriter.specs.Puts.{Puts}
use Rattle.zonewriter.specs.Written.{writing, written}
use Rattle.zonewriter.proofs.Framing.{text_length, tail_is}
use Rattle.zonewriter.proofs.Rowing.{row_text_length}
use Rattle.zonewriter.proofs.Placing.{puts_more, puts_same}

pub window_sound : (w : Window) → Sound window_rows w.interval (w.rows.items)
window_sound w = record { in_era = w.era; covers = record { begins = w.begins; joined = w.joined; ends = w.ends; small = w.small }; few = w.few }

pub name_short : (bytes : List ℕ) → length bytes ≡ 48 → is_name bytes ≡ true → length (spelled bytes) ≤ 48
name_short bytes l h =
    let t = spelled bytes in
    let p = and_parts (leb 1 (length t)) (leb (length t) 48 && name_bytes t) (name_back bytes l h).0 in
    leb-true (length t) 48 (and_parts (leb (length t) 48) (name_bytes t) p.1).0

pub window_writable : (w : Window) (rows : List Row) → rows ≡ w.rows.items → All Writable rows
window_writable w rows e = subst (All Writable) (sym e) (λ k d h. All-get_or Writable w.rows.items k d h (rows_writable window_rows w.interval w.rows.items (window_sound w)))

offset_short : (z : Offset) → length (printed z) ≤ 7
offset_short z = ⊎_elim (λ e. omega (arith, e)) (λ e. omega (arith, e)) (offset_length z).either

row_small : (r : Row) → length (row_text r) ≤ 97
row_small r = omega (arith, row_text_length r, offset_short (offset r.from), offset_short (offset r.to))

-- 64 rows have a text of 6208 bytes at most
pub rows_small : (rows : List Row) → length rows ≤ 64 → sum_by (λ r. length (row_text r)) rows ≤ 6208
rows_small rows h = omega (arith, h, sum_by-le (λ r. length (row_text r)) 97 rows (λ k d l. row_small (get_or rows k d)))

pub zone_there : (n : Name) (w : Window) → length n.bytes ≡ 48 → is_name n.bytes ≡ true → IsZone (zone_in n w)
zone_there n w l h = record { long = l; named = h; window = window_sound w }

pub rows_length : (rows : List Row) → length (flat_map row_text rows) ≡ sum_by (λ r. length (row_text r)) rows
rows_length rows = length-flat_map row_text rows

-- the length, by the parts of the code
pub same_length : (n : Name) (w : Window) (t : List ℕ) (rows : List Row) → t ≡ spelled n.bytes → rows ≡ w.rows.items → 65 + length t + sum_by (λ r. length (row_text r)) rows ≡ length (text_of (zone_in n w))
same_length n w t rows e f = omega (arith, ap length e, ap (sum_by (λ r. length (row_text r))) f, rows_length w.rows.items, text_length (zone_in n w))

-- the buffer is too short
pub short_is : (z : Zone) (n : ℕ) → is_name z.name ≡ true → n < length (text_of z) → refused 16 [] ≡ writing z n
short_is z n h l =
    let t = length (text_of z) in
    sym (cond-true (is_name z.name) (cond (leb t n) (answered t) (refused 16 [])) (refused 1 []) h ∙ cond-false (leb t n) (answered t) (refused 16 []) (lt-leb t n l))

pub short_after : (z : Zone) (b : List ℕ) → length b < length (text_of z) → b ≡ written z b
short_after z b l = sym (cond-false (is_name z.name && leb (length (text_of z)) (length b)) (text_of z ++ drop (length (text_of z)) b) b (and_right (is_name z.name) (leb (length (text_of z)) (length b)) (lt-leb _ _ l)))

-- what is put at the front of a buffer
puts_front : {a b : Writer} {s : List ℕ} → a.len ≡ 0 → Puts a s b → (b.len ≡ length s) × (b.buffer.now ≡ s ++ drop (length s) a.buffer.now)
puts_front {a} {b} {s} e p =
    let zero : 0 + length s ≡ length s = omega arith in
    (omega (arith, e, p.len), p.bytes ∙ ap (λ k. take k a.buffer.now ++ (s ++ drop (k + length s) a.buffer.now)) e ∙ ap (λ k. s ++ drop k a.buffer.now) zero)

-- the text is put
pub whole_put : (z : Zone) (t : List ℕ) (rows : List Row) → t ≡ spelled z.name → rows ≡ z.rows → {a b c d : Writer} → a.len ≡ 0 → Puts a (head_text t z.interval.end) b → Puts b (flat_map row_text rows) c → Puts c (line_text (codes "END") (codes "VTIMEZONE")) d
    → (d.len ≡ length (text_of z)) × (d.buffer.now ≡ text_of z ++ drop (length (text_of z)) a.buffer.now)
whole_put z t rows is-t is-rows {a} front p q s =
    let h : a.len ≤ length a.buffer.now = omega (arith, front) in
    let all : (head_text t z.interval.end ++ flat_map row_text rows) ++ line_text (codes "END") (codes "VTIMEZONE") ≡ text_of z =
    append_assoc (head_text t z.interval.end) (flat_map row_text rows) (line_text (codes "END") (codes "VTIMEZONE")) ∙ (λ i. head_text (is-t i) z.interval.end ++ (flat_map row_text (is-rows i) ++ sym tail_is i)) in
    puts_front front (puts_same all (puts_more h (puts_more h p q) s))

pub whole_is : (z : Zone) (n r : ℕ) → is_name z.name ≡ true → length (text_of z) ≤ n → r ≡ length (text_of z) → answered r ≡ writing z n
whole_is z n r h l e =
    let t = length (text_of z) in
    ap answered e ∙ sym (cond-true (is_name z.name) (cond (leb t n) (answered t) (refused 16 [])) (refused 1 []) h ∙ cond-true (leb t n) (answered t) (refused 16 []) (le-leb t n l))

pub whole_after : (z : Zone) (b g : List ℕ) → is_name z.name ≡ true → length (text_of z) ≤ length b → g ≡ text_of z ++ drop (length (text_of z)) b → g ≡ written z b
whole_after z b g h l e = e ∙ sym (cond-true (is_name z.name && leb (length (text_of z)) (length b)) (text_of z ++ drop (length (text_of z)) b) b (and_from (is_name z.name) (leb (length (text_of z)) (length b)) h (le-leb _ _ l)))

pub whole_back : (z : Zone) (b g : List ℕ) (r : ℕ) → IsZone z → r ≡ length (text_of z) → g ≡ text_of z ++ drop (length (text_of z)) b → ReadsAs (take r g) z
whole_back z b g r h e f = subst (λ t. ReadsAs t z) (sym (ap (take r) f ∙ take_at (text_of z) (drop (length (text_of z)) b) r (sym e))) (back z h)
