-- The text of a zone reads as that zone. Assumes nothing.
use Rattle.std.proofs.Common.{◌≡◌, ℕ, ◌+◌, ◌<◌, ◌≤◌, true, not, ◌&&◌, eqb, ltb, leb, List, [], ◌∷◌, ◌++◌, length, ℤ, pos, ◌+ℤ◌, ◌-ℤ◌, Some, None, codes, sym, refl, ap, ◌∙◌, subst, arith}
use lib.Signed.{lt_z, le_z}
use Rattle.std.specs.List.{AllByRecursion as All}
use Rattle.std.specs.Option.{option_map}
use Rattle.std.specs.Str.{bytes_eq}
use Rattle.std.proofs.lemmas.Slice.Eq.{bytes_eq-Decides}
use Rattle.std.proofs.lemmas.List.{append_assoc, append-nil, length-append}
use Rattle.std.proofs.lemmas.Int.{ints}
use Rattle.std.proofs.lemmas.Bool.{lt-ltb, cond-true, ne_eqb, and_from, and_parts, both_ways}
use Rattle.calendar.specs.Calendar.{InRange}
use Rattle.calendar.specs.declared.dates.Seconds.{Seconds}
use Rattle.fields.specs.declared.types.Offset.{Offset}
use Rattle.fields.specs.Laws.{FieldByte}
use Rattle.fields.specs.Offsets.{offset, printed, InDay}
use Rattle.fields.specs.Stamps.{stamp_text}
use Rattle.fields.proofs.Parsing.{parsed_printed}
use Rattle.fields.proofs.Shapes.{offset_bytes, stamp_bytes}
use Rattle.zone.specs.declared.rows.Instant.{Instant}
use Rattle.zone.specs.declared.rows.Observance.{Observance}
use Rattle.zone.specs.declared.rows.Observance.TheVariants.{Standard, Daylight}
use Rattle.zone.specs.declared.rows.Row.{Row}
use Rattle.zone.specs.Intervals.{era}
use Rattle.names.specs.Names.{name_byte, name_bytes, is_text, spelled}
use Rattle.zone.specs.Refusals.{answered}
use Rattle.zone.specs.Rows.{window_rows}
use Rattle.zonetext.specs.declared.places.Part.TheVariants.{Empty, Started, Left, Full}
use Rattle.zonetext.specs.declared.places.Place.TheVariants.{Before, Head, Named, Between, Inside, After}
use Rattle.zonetext.specs.Laws.{ReadsAs, OneText, TextsStand}
use Rattle.zonetext.specs.Lines.{Lines, rest, line, unlines, cut, Said, begin, end, property, said, split}
use Rattle.zonetext.specs.Reading.{State, Zone, zone, state, start, component, row_of, may_come, closed, step, zone_read, run, reading}
use Rattle.zonetext.specs.Stamps.{stamp_at}
use Rattle.zonetext.specs.Writing.{start_text, until_text, text_of, IsZone, Writable}
use Rattle.zonetext.proofs.Counting.{stamp_there}
use Rattle.zonetext.proofs.Gluing.{bare, row_lines, lines_of, text_unlined, plain, cut_line}
use Rattle.zonetext.proofs.Keeping.{Kept, sound_kept, next_comes}
use Rattle.zonetext.proofs.Fitting.{rows_writable, end_range, ends_late, ends_early}
use Rattle.zonetext.proofs.Only.{only}
use Rattle.zonetext.proofs.Padding.{name_back}
use Rattle.zonetext.proofs.Turns.{run_on, run_rest, reading_is}
use Rattle.zonetext.proofs.Valued.{start_there, until_there}

-- the lines of a zone have no CR
plain_fields : (l : List ℕ) → All FieldByte l → plain l ≡ true
plain_fields [] h = refl
plain_fields (c ∷ cs) h = and_from (not (eqb c 13)) (plain cs) (ap not (ne_eqb c 13 (λ e. omega (arith, h.0.above)))) (plain_fields cs h.1)

plain_append : (l m : List ℕ) → plain l ≡ true → plain m ≡ true → plain (l ++ m) ≡ true
plain_append [] m h k = k
plain_append (c ∷ l) m h k = let p = and_parts (not (eqb c 13)) (plain l) h in and_from (not (eqb c 13)) (plain (l ++ m)) p.0 (plain_append l m p.1 k)

plain_name : (n : List ℕ) → name_bytes n ≡ true → plain n ≡ true
plain_name [] h = refl
plain_name (c ∷ cs) h =
    let p = and_parts (name_byte c) (name_bytes cs) h in
    and_from (not (eqb c 13)) (plain cs) (ap not (ne_eqb c 13 (λ e. both_ways (name_byte 13) refl (ap name_byte (sym e) ∙ p.0)))) (plain_name cs p.1)

plain_text : (n : List ℕ) → is_text n ≡ true → plain n ≡ true
plain_text n h = plain_name n (and_parts (leb (length n) 48) (name_bytes n) (and_parts (leb 1 (length n)) (leb (length n) 48 && name_bytes n) h).1).1

plain_component : (o : Observance) → plain (component o) ≡ true
plain_component Standard = refl
plain_component Daylight = refl

plain_stamp : (z : ℤ) → InRange z → plain (stamp_text (stamp_at z)) ≡ true
plain_stamp z h = plain_fields (stamp_text (stamp_at z)) (stamp_bytes (stamp_at z) (stamp_there z h).0)

plain_until : (z : ℤ) → InRange z → plain (until_text z) ≡ true
plain_until z h = plain_append (stamp_text (stamp_at z)) (codes "Z") (plain_stamp z h) refl

cut_none : cut [] ≡ rest []
unfolding cut
cut_none = refl

cut_rows : (rs : List Row) → All Writable rs → cut (unlines (row_lines rs)) ≡ row_lines rs
cut_rows [] h = cut_line (bare (codes "END") (codes "VTIMEZONE")) [] refl ∙ ap (line (bare (codes "END") (codes "VTIMEZONE"))) cut_none
cut_rows (r ∷ rs) h =
    let f = h.0 in
    let a = bare (codes "BEGIN") (component r.observance) in
    let b = bare (codes "DTSTART") (start_text r) in
    let c = bare (codes "TZOFFSETFROM") (printed (offset r.from)) in
    let d = bare (codes "TZOFFSETTO") (printed (offset r.to)) in
    let e = bare (codes "END") (component r.observance) in
    cut_line a _ (plain_component r.observance)
    ∙ ap (line a) (cut_line b _ (plain_stamp (r.onset +ℤ r.from) f.local)
    ∙ ap (line b) (cut_line c _ (plain_fields (printed (offset r.from)) (offset_bytes (offset r.from) f.from_day))
    ∙ ap (line c) (cut_line d _ (plain_fields (printed (offset r.to)) (offset_bytes (offset r.to) f.to_day))
    ∙ ap (line d) (cut_line e _ (plain_component r.observance) ∙ ap (line e) (cut_rows rs h.1)))))

cut_lines : (n : List ℕ) (u : ℤ) (rs : List Row) → is_text n ≡ true → InRange u → All Writable rs → cut (unlines (lines_of n u rs)) ≡ lines_of n u rs
cut_lines n u rs h k f =
    let a = bare (codes "BEGIN") (codes "VTIMEZONE") in
    let b = bare (codes "TZID") n in
    let c = bare (codes "TZUNTIL") (until_text u) in
    cut_line a _ refl ∙ ap (line a) (cut_line b _ (plain_text n h) ∙ ap (line b) (cut_line c _ (plain_until u k) ∙ ap (line c) (cut_rows rs f)))

-- what the lines say
said_begin : (v : List ℕ) → said (bare (codes "BEGIN") v) ≡ begin v
unfolding said split
said_begin v = refl

said_end : (v : List ℕ) → said (bare (codes "END") v) ≡ end v
unfolding said split
said_end v = refl

said_name : (v : List ℕ) → said (bare (codes "TZID") v) ≡ property (codes "TZID") v
unfolding said split
said_name v = refl

said_until : (v : List ℕ) → said (bare (codes "TZUNTIL") v) ≡ property (codes "TZUNTIL") v
unfolding said split
said_until v = refl

said_start : (v : List ℕ) → said (bare (codes "DTSTART") v) ≡ property (codes "DTSTART") v
unfolding said split
said_start v = refl

said_from : (v : List ℕ) → said (bare (codes "TZOFFSETFROM") v) ≡ property (codes "TZOFFSETFROM") v
unfolding said split
said_from v = refl

said_to : (v : List ℕ) → said (bare (codes "TZOFFSETTO") v) ≡ property (codes "TZOFFSETTO") v
unfolding said split
said_to v = refl

-- each of them is taken
taken : (s s' : State) (o : ℕ) (l : List ℕ) (w : Said) (ls : Lines) → said l ≡ w → step s w ≡ Some s' → run s o (line l ls) ≡ run s' (o + (length l + 2)) ls
taken s s' o l w ls e f = run_on s s' o l ls (ap (step s) e ∙ f)

module _ (n : List ℕ) (u : Instant) (rs : List Row) where
  step_open : step (state Before n u rs) (begin (codes "VTIMEZONE")) ≡ Some (state Head n u rs)
  step_open = refl

  step_name : (m : List ℕ) → is_text m ≡ true → step (state Head n u rs) (property (codes "TZID") m) ≡ Some (state Named m u rs)
  step_name m h = cond-true (is_text m) (Some (state Named m u rs)) None h

  step_until : (z : ℤ) → lt_z era.start z ≡ true → le_z z era.end ≡ true → step (state Named n u rs) (property (codes "TZUNTIL") (until_text z)) ≡ Some (state Between n (record { 0 = z }) rs)
  step_until z a b = ap (λ o. option_map (λ v. state Between n v rs) o) (until_there z a b)

  step_row : (o : Observance) → length rs < window_rows → step (state Between n u rs) (begin (component o)) ≡ Some (state (Inside o Empty) n u rs)
  step_row Standard h = cond-true (ltb (length rs) window_rows) (Some (state (Inside Standard Empty) n u rs)) None (lt-ltb (length rs) 64 h)
  step_row Daylight h = cond-true (ltb (length rs) window_rows) (Some (state (Inside Daylight Empty) n u rs)) None (lt-ltb (length rs) 64 h)

  step_start : (o : Observance) (z : ℤ) → InRange z → step (state (Inside o Empty) n u rs) (property (codes "DTSTART") (stamp_text (stamp_at z))) ≡ Some (state (Inside o (Started (record { 0 = z }))) n u rs)
  step_start o z h = ap (λ q. option_map (λ r. state (Inside o r) n u rs) (option_map Started q)) (start_there z h)

  step_from : (o : Observance) (d : Seconds) (x : Offset) → InDay x → step (state (Inside o (Started d)) n u rs) (property (codes "TZOFFSETFROM") (printed x)) ≡ Some (state (Inside o (Left d x)) n u rs)
  step_from o d x h = ap (λ q. option_map (λ r. state (Inside o r) n u rs) (option_map (Left d) q)) (parsed_printed x h)

  step_to : (o : Observance) (d : Seconds) (x y : Offset) → InDay y → step (state (Inside o (Left d x)) n u rs) (property (codes "TZOFFSETTO") (printed y)) ≡ Some (state (Inside o (Full d x y)) n u rs)
  step_to o d x y h = ap (λ q. option_map (λ r. state (Inside o r) n u rs) (option_map (Full d x) q)) (parsed_printed y h)

  step_end : (o : Observance) (d : Seconds) (x y : Offset) (r : Row) → row_of o d x y ≡ r → may_come u rs r ≡ true → step (state (Inside o (Full d x y)) n u rs) (end (component o)) ≡ Some (state Between n u (rs ++ r ∷ []))
  step_end o d x y r e m =
      cond-true (bytes_eq (component o) (component o)) (closed (state (Inside o (Full d x y)) n u rs) (row_of o d x y)) None ((bytes_eq-Decides (component o) (component o)).1 refl)
      ∙ ap (closed (state (Inside o (Full d x y)) n u rs)) e
      ∙ cond-true (may_come u rs r) (Some (state Between n u (rs ++ r ∷ []))) None m

  step_close : 0 < length rs → step (state Between n u rs) (end (codes "VTIMEZONE")) ≡ Some (state After n u rs)
  step_close h = cond-true (ltb 0 (length rs) && true) (Some (state After n u rs)) None (and_from (ltb 0 (length rs)) true (lt-ltb 0 (length rs) h) refl)

-- a row by its lines is the row
row_again : (r : Row) → row_of r.observance (record { 0 = r.onset +ℤ r.from }) (offset r.from) (offset r.to) ≡ r
row_again r =
    let e : (r.onset +ℤ r.from) -ℤ r.from ≡ r.onset = omega (arith, ints) in
    let made : ℤ → Row = λ z. record { onset = z; from = r.from; to = r.to; observance = r.observance } in
    ap made e

run_rows : (more : List Row) (n : List ℕ) (u : Instant) (acc : List Row) (o : ℕ) → All Writable more → le_z u.0 era.end ≡ true → Kept u.0 (acc ++ more) → 0 < length (acc ++ more) → length (acc ++ more) ≤ window_rows → run (state Between n u acc) o (row_lines more) ≡ answered (zone_read (state After n u (acc ++ more)))
run_rows [] n u acc o f e k h l =
    let same = ap length (append-nil acc) in
    taken (state Between n u acc) (state After n u acc) o _ _ _ (said_end (codes "VTIMEZONE")) (step_close n u acc (omega arith))
    ∙ run_rest (state After n u acc) _ []
    ∙ ap (λ x. answered (zone_read (state After n u x))) (sym (append-nil acc))
run_rows (r ∷ more) n u acc o f e k h l =
    let all = append_assoc acc (r ∷ []) more in
    let len = ap length all in
    let long = length-append acc (r ∷ more) in
    let b = r.observance in
    let d : Seconds = record { 0 = r.onset +ℤ r.from } in
    let x = offset r.from in
    let y = offset r.to in
    taken (state Between n u acc) (state (Inside b Empty) n u acc) o _ _ _ (said_begin (component b)) (step_row n u acc b (omega arith))
    ∙ taken (state (Inside b Empty) n u acc) (state (Inside b (Started d)) n u acc) _ _ _ _ (said_start (start_text r)) (step_start n u acc b (r.onset +ℤ r.from) f.0.local)
    ∙ taken (state (Inside b (Started d)) n u acc) (state (Inside b (Left d x)) n u acc) _ _ _ _ (said_from (printed x)) (step_from n u acc b d x f.0.from_day)
    ∙ taken (state (Inside b (Left d x)) n u acc) (state (Inside b (Full d x y)) n u acc) _ _ _ _ (said_to (printed y)) (step_to n u acc b d x y f.0.to_day)
    ∙ taken (state (Inside b (Full d x y)) n u acc) (state Between n u (acc ++ r ∷ [])) _ _ _ _ (said_end (component b)) (step_end n u acc b d x y r (row_again r) (next_comes u acc r more e k))
    ∙ run_rows more n u (acc ++ r ∷ []) _ f.1 e (subst (Kept u.0) (sym all) k) (omega arith) (omega arith)
    ∙ ap (λ q. answered (zone_read (state After n u q))) all

-- the text of a zone reads as it
pub back : (z : Zone) → IsZone z → ReadsAs (text_of z) z
back z h =
    let n = spelled z.name in
    let u = z.interval.end in
    let rs = z.rows in
    let s = h.window in
    let m = name_back z.name h.long h.named in
    let late = ends_late z.interval s.in_era in
    let early = ends_early z.interval s.in_era in
    let first : Instant = record { 0 = pos 0 } in
    let last : Instant = record { 0 = u } in
    let made : List ℕ → ℤ → Zone = λ name z. zone name (record { start = z; end = u }) rs in
    reading_is (text_of z)
    ∙ ap (λ t. run start 0 (cut t)) (sym (text_unlined n u rs))
    ∙ ap (run start 0) (cut_lines n u rs m.0 (end_range z.interval s.in_era) (rows_writable window_rows z.interval rs s))
    ∙ taken (state Before [] first []) (state Head [] first []) 0 _ _ _ (said_begin (codes "VTIMEZONE")) (step_open [] first [])
    ∙ taken (state Head [] first []) (state Named n first []) _ _ _ _ (said_name n) (step_name [] first [] n m.0)
    ∙ taken (state Named n first []) (state Between n last []) _ _ _ _ (said_until (until_text u)) (step_until n first [] u late early)
    ∙ run_rows rs n last [] _ (rows_writable window_rows z.interval rs s) early (sound_kept window_rows z.interval rs s) s.covers.begins.0 s.few
    ∙ (λ i. answered (made (m.1 i) (s.covers.begins.1 i)))

pub one_text : OneText
one_text t z = (only t z, λ h. ap reading h.1 ∙ back z h.0)

pub texts_stand : TextsStand
texts_stand = record { one_text = one_text; back = back; alike = λ t u z g h. (only t z g).1 ∙ sym (only u z h).1 }
