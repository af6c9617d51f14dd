-- A text and its lines say the same. Assumes nothing.
use Rattle.std.proofs.Common.{◌≡◌, ℕ, Bool, true, not, ◌&&◌, eqb, List, [], ◌∷◌, ◌++◌, ℤ, codes, sym, refl, ap, ◌∙◌, subst, ⊎_elim}
use Rattle.std.specs.List.{flat_map}
use Rattle.std.specs.Str.{bytes_eq}
use Rattle.std.proofs.lemmas.Slice.Eq.{bytes_eq-Decides}
use Rattle.std.proofs.lemmas.List.{append_assoc}
use Rattle.std.proofs.lemmas.Bool.{eqb-true, eqb-false, cases_Bool, cond-true, cond-false, and_parts, not-true}
use Rattle.fields.specs.Offsets.{offset, printed}
use Rattle.zone.specs.declared.rows.Row.{Row}
use Rattle.zonetext.specs.Lines.{Lines, rest, line, unlines, glue, cut, Split, whole, apart, grow, split, Said, begin, end, property, odd, named, said, said_by}
use Rattle.zonetext.specs.Reading.{component}
use Rattle.zonetext.specs.Writing.{line_text, start_text, until_text, row_text, head_text, tail_text}
use Rattle.zonetext.proofs.Cuts.{cut_on, cut_here}

-- a line without its CR LF
abbrev pub bare : List ℕ → List ℕ → List ℕ
bare n v = n ++ 58 ∷ v

-- the lines of rows, and the last line
abbrev pub row_lines : List Row → Lines
row_lines [] = line (bare (codes "END") (codes "VTIMEZONE")) (rest [])
row_lines (r ∷ rs) = line (bare (codes "BEGIN") (component r.observance)) (line (bare (codes "DTSTART") (start_text r)) (line (bare (codes "TZOFFSETFROM") (printed (offset r.from))) (line (bare (codes "TZOFFSETTO") (printed (offset r.to))) (line (bare (codes "END") (component r.observance)) (row_lines rs)))))

-- the lines of a text, by the text of its name and its end
abbrev pub lines_of : List ℕ → ℤ → List Row → Lines
lines_of n u rs = line (bare (codes "BEGIN") (codes "VTIMEZONE")) (line (bare (codes "TZID") n) (line (bare (codes "TZUNTIL") (until_text u)) (row_lines rs)))

one_line : (n v t : List ℕ) → bare n v ++ 13 ∷ 10 ∷ t ≡ line_text n v ++ t
one_line n v t =
    append_assoc n (58 ∷ v) (13 ∷ 10 ∷ t)
    ∙ ap (λ l. n ++ (58 ∷ l)) (sym (append_assoc v (13 ∷ 10 ∷ []) t))
    ∙ sym (append_assoc n (58 ∷ (v ++ (13 ∷ 10 ∷ []))) t)

rows_unlined : (rs : List Row) → unlines (row_lines rs) ≡ flat_map row_text rs ++ tail_text
unfolding row_text tail_text
rows_unlined [] = refl
rows_unlined (r ∷ rs) =
    let a = line_text (codes "BEGIN") (component r.observance) in
    let b = line_text (codes "DTSTART") (start_text r) in
    let c = line_text (codes "TZOFFSETFROM") (printed (offset r.from)) in
    let d = line_text (codes "TZOFFSETTO") (printed (offset r.to)) in
    let e = line_text (codes "END") (component r.observance) in
    let w = flat_map row_text rs ++ tail_text in
    one_line (codes "BEGIN") (component r.observance) _
    ∙ ap (λ l. a ++ l) (one_line (codes "DTSTART") (start_text r) _
    ∙ ap (λ l. b ++ l) (one_line (codes "TZOFFSETFROM") (printed (offset r.from)) _
    ∙ ap (λ l. c ++ l) (one_line (codes "TZOFFSETTO") (printed (offset r.to)) _
    ∙ ap (λ l. d ++ l) (one_line (codes "END") (component r.observance) _ ∙ ap (λ l. e ++ l) (rows_unlined rs)))))
    ∙ sym (append_assoc (a ++ (b ++ (c ++ (d ++ e)))) (flat_map row_text rs) tail_text
    ∙ append_assoc a (b ++ (c ++ (d ++ e))) w
    ∙ ap (λ l. a ++ l) (append_assoc b (c ++ (d ++ e)) w ∙ ap (λ l. b ++ l) (append_assoc c (d ++ e) w ∙ ap (λ l. c ++ l) (append_assoc d e w))))

pub text_unlined : (n : List ℕ) (u : ℤ) (rs : List Row) → unlines (lines_of n u rs) ≡ head_text n u ++ (flat_map row_text rs ++ tail_text)
unfolding head_text
text_unlined n u rs =
    let a = line_text (codes "BEGIN") (codes "VTIMEZONE") in
    let b = line_text (codes "TZID") n in
    let c = line_text (codes "TZUNTIL") (until_text u) in
    let w = flat_map row_text rs ++ tail_text in
    one_line (codes "BEGIN") (codes "VTIMEZONE") _
    ∙ ap (λ l. a ++ l) (one_line (codes "TZID") n _ ∙ ap (λ l. b ++ l) (one_line (codes "TZUNTIL") (until_text u) _ ∙ ap (λ l. c ++ l) (rows_unlined rs)))
    ∙ sym (append_assoc a (b ++ c) w ∙ ap (λ l. a ++ l) (append_assoc b c w))

-- cut takes nothing away
unlines_glue : (c : ℕ) (k : Lines) → unlines (glue c k) ≡ c ∷ unlines k
unlines_glue c (rest t) = refl
unlines_glue c (line l k) = refl

pub unlines_cut : (t : List ℕ) → unlines (cut t) ≡ t
unfolding cut
unlines_cut [] = refl
unlines_cut (c ∷ []) = refl
unlines_cut (c ∷ d ∷ t) =
    let b = eqb c 13 && eqb d 10 in
    ⊎_elim
    (λ y. let p = and_parts (eqb c 13) (eqb d 10) y in
    ap unlines (cond-true b (line [] (cut t)) (glue c (cut (d ∷ t))) y) ∙ (λ j. sym (eqb-true c 13 p.0) j ∷ sym (eqb-true d 10 p.1) j ∷ unlines_cut t j))
    (λ n. ap unlines (cond-false b (line [] (cut t)) (glue c (cut (d ∷ t))) n) ∙ unlines_glue c (cut (d ∷ t)) ∙ ap (λ l. c ∷ l) (unlines_cut (d ∷ t)))
    (cases_Bool b)

-- no CR
abbrev pub plain : List ℕ → Bool
plain [] = true
plain (c ∷ cs) = not (eqb c 13) && plain cs

pub cut_line : (l t : List ℕ) → plain l ≡ true → cut (l ++ 13 ∷ 10 ∷ t) ≡ line l (cut t)
cut_line [] t h = cut_here t
cut_line (c ∷ []) t h = let p = and_parts (not (eqb c 13)) true h in cut_on c 13 (10 ∷ t) (λ e f. eqb-false c 13 (not-true _ p.0) e) ∙ ap (glue c) (cut_here t)
cut_line (c ∷ d ∷ l) t h =
    let p = and_parts (not (eqb c 13)) (plain (d ∷ l)) h in
    cut_on c d (l ++ 13 ∷ 10 ∷ t) (λ e f. eqb-false c 13 (not-true _ p.0) e) ∙ ap (glue c) (cut_line (d ∷ l) t p.1)

-- what is said is what stands there
abbrev Shown : Said → List ℕ → Type 0
Shown (begin v) l = l ≡ bare (codes "BEGIN") v
Shown (end v) l = l ≡ bare (codes "END") v
Shown (property p v) l = l ≡ bare p v
Shown odd l = Unit {0}

abbrev Apart : Split → List ℕ → Type 0
Apart whole l = Unit {0}
Apart (apart n v) l = l ≡ bare n v

apart_grow : (c : ℕ) (k : Split) (l : List ℕ) → Apart k l → Apart (grow c k) (c ∷ l)
apart_grow c whole l h = tt
apart_grow c (apart n v) l h = ap (λ l. c ∷ l) h

split_shown : (l : List ℕ) → Apart (split l) l
unfolding split
split_shown [] = tt
split_shown (c ∷ l) =
    ⊎_elim
    (λ y. subst (λ k. Apart k (c ∷ l)) (sym (cond-true (eqb c 58) (apart [] l) (grow c (split l)) y)) (ap (λ d. d ∷ l) (eqb-true c 58 y)))
    (λ n. subst (λ k. Apart k (c ∷ l)) (sym (cond-false (eqb c 58) (apart [] l) (grow c (split l)) n)) (apart_grow c (split l) l (split_shown l)))
    (cases_Bool (eqb c 58))

named_shown : (n v l : List ℕ) → l ≡ bare n v → Shown (named n v) l
named_shown n v l e =
    ⊎_elim
    (λ y. subst (λ k. Shown k l) (sym (cond-true _ (begin v) _ y)) (e ∙ ap (λ w. bare w v) ((bytes_eq-Decides n (codes "BEGIN")).0 y)))
    (λ x. subst (λ k. Shown k l) (sym (cond-false _ (begin v) _ x))
    (⊎_elim
    (λ y. subst (λ k. Shown k l) (sym (cond-true _ (end v) (property n v) y)) (e ∙ ap (λ w. bare w v) ((bytes_eq-Decides n (codes "END")).0 y)))
    (λ z. subst (λ k. Shown k l) (sym (cond-false _ (end v) (property n v) z)) e)
    (cases_Bool (bytes_eq n (codes "END")))))
    (cases_Bool (bytes_eq n (codes "BEGIN")))

shown : (l : List ℕ) → Shown (said l) l
unfolding said
shown l = by (split l) (split_shown l) where
  by : (k : Split) → Apart k l → Shown (said_by k) l
  by whole h = tt
  by (apart n v) h = named_shown n v l h

pub text_begin : (l v : List ℕ) → said l ≡ begin v → l ≡ bare (codes "BEGIN") v
text_begin l v e = subst (λ k. Shown k l) e (shown l)

pub text_end : (l v : List ℕ) → said l ≡ end v → l ≡ bare (codes "END") v
text_end l v e = subst (λ k. Shown k l) e (shown l)

pub text_property : (l p v : List ℕ) → said l ≡ property p v → l ≡ bare p v
text_property l p v e = subst (λ k. Shown k l) e (shown l)
