-- Lemmas on names and their padding. Assumes nothing.
use Rattle.std.proofs.Common.{◌≡◌, ℕ, zero, suc, ◌+◌, ◌-◌, ◌<◌, ◌≤◌, Bool, true, false, cond, not, ◌&&◌, eqb, leb, List, [], ◌∷◌, ◌++◌, length, length-take-le, get_or, take, drop, replicate, Decides, sym, refl, ap, ◌∙◌, inl, inr, arith}
use Rattle.std.proofs.lemmas.Bool.{leb-true, eqb-true, eq-eqb, false≢true, and_parts, and_from, cases_Bool}
use Rattle.std.proofs.lemmas.Bool.Decides.{nat_tests}
use Rattle.std.proofs.lemmas.List.{length-drop, take_all}
use Rattle.std.specs.Prelude.{slice_range, ◌==◌}
use Rattle.std.specs.List.{position, position_or_len}
use Rattle.std.specs.Option.{unwrap_or}
use Rattle.names.specs.Names.{name_byte, blank, padded, is_name, name_bytes, is_text, held, spelled}
use Rattle.std.proofs.lemmas.List.Sums.{prefix_len-le-length}
use Rattle.names.specs.Laws.{Spells, NamesStand}

-- zero is no name byte
pub not_zero : (b : ℕ) → name_byte b ≡ true → eqb b 0 ≡ false
not_zero b h = grind (arith, nat_tests)

-- one step of `padded`
pub padded_yes : (b : ℕ) (bs : List ℕ) → name_byte b ≡ true → padded (b ∷ bs) ≡ padded bs
padded_yes b bs h = rw h

pub padded_no : (b : ℕ) (bs : List ℕ) → name_byte b ≡ false → padded (b ∷ bs) ≡ (eqb b 0 && blank bs)
padded_no b bs h = rw h

take_suc : (b : ℕ) (n : ℕ) (bs : List ℕ) → take (1 + n) (b ∷ bs) ≡ b ∷ take n bs
take_suc b n bs = let e : 1 + n ≡ suc n = omega arith in ap (λ m. take m (b ∷ bs)) e

-- the bytes before the padding are those before the first zero byte
first_zero : (bs : List ℕ) → take (position_or_len (λ b. eqb b 0) bs) bs ≡ spelled bs
first_zero [] = refl
first_zero (b ∷ bs) = step (eqb b 0) (first_zero bs)
  where
    step : (e : Bool) → take (position_or_len (λ x. eqb x 0) bs) bs ≡ spelled bs → take (cond (not e) (1 + position_or_len (λ x. eqb x 0) bs) 0) (b ∷ bs) ≡ cond e [] (b ∷ spelled bs)
    step true h = refl
    step false h = let t = take_suc b (position_or_len (λ x. eqb x 0) bs) bs in t ∙ ap (λ x. b ∷ x) h

pub text_stops : (bs : List ℕ) (most n : ℕ) → length bs ≡ most → n ≡ unwrap_or (position (λ b. b == 0) bs) most → take n bs ≡ spelled bs
text_stops bs most n l h = let k = prefix_len-le-length (λ b. not (eqb b 0)) bs in let e : n ≡ position_or_len (λ b. eqb b 0) bs = grind (arith, nat_tests) in ap (λ i. take i bs) e ∙ first_zero bs

-- what stands before the first zero byte, and what stands from there on
parts_cons : (b : ℕ) (bs : List ℕ) (n : ℕ) → b ∷ take n bs ≡ spelled (b ∷ bs) → (eqb b 0 ≡ false) × (take n bs ≡ spelled bs)
parts_cons b bs n h = go (eqb b 0) refl h
  where
    go : (e : Bool) → eqb b 0 ≡ e → b ∷ take n bs ≡ cond e [] (b ∷ spelled bs) → (eqb b 0 ≡ false) × (take n bs ≡ spelled bs)
    go true f h = cc
    go false f h = (f, cc)

parts_nil : (b : ℕ) (bs : List ℕ) → [] ≡ spelled (b ∷ bs) → b ≡ 0
parts_nil b bs h = go (eqb b 0) refl h
  where
    go : (e : Bool) → eqb b 0 ≡ e → [] ≡ cond e [] (b ∷ spelled bs) → b ≡ 0
    go true f h = eqb-true b 0 f
    go false f h = cc

padded_parts : (bs : List ℕ) (n : ℕ) → n ≤ length bs → take n bs ≡ spelled bs → padded bs ≡ (name_bytes (take n bs) && blank (drop n bs))
padded_parts [] zero l h = refl
padded_parts [] (suc n) l h = absurd (omega arith)
padded_parts (b ∷ bs) zero l h = rw (parts_nil b bs h) refl
padded_parts (b ∷ bs) (suc n) l h =
    let p = parts_cons b bs n h in
    let ih = padded_parts bs n (omega arith) p.1 in
    elim (cases_Bool (name_byte b)) [ inl y ↦ rw y ih | inr m ↦ rw (m, p.0) refl ]

-- the bytes before the padding are a name's text, and the padding is blank
valid_parts : (bs : List ℕ) (n : ℕ) → n ≤ length bs → n ≤ 48 → take n bs ≡ spelled bs → is_name bs ≡ (is_text (take n bs) && blank (drop n bs))
valid_parts [] zero l m h = refl
valid_parts [] (suc n) l m h = absurd (omega arith)
valid_parts (b ∷ bs) zero l m h = rw (parts_nil b bs h) refl
valid_parts (b ∷ bs) (suc n) l m h =
    let p = padded_parts bs n (omega arith) (parts_cons b bs n h).1 in
    let k = length-take-le n bs (omega arith) in
    grind (arith, nat_tests)

-- the bytes before the padding stand at the front
spelled_front : (bs : List ℕ) → (length (spelled bs) ≤ length bs) × (take (length (spelled bs)) bs ≡ spelled bs)
spelled_front [] = (omega arith, refl)
spelled_front (b ∷ bs) = go (eqb b 0) (spelled_front bs)
  where
    go : (e : Bool) → (length (spelled bs) ≤ length bs) × (take (length (spelled bs)) bs ≡ spelled bs) → (length (cond e [] (b ∷ spelled bs)) ≤ suc (length bs)) × (take (length (cond e [] (b ∷ spelled bs))) (b ∷ bs) ≡ cond e [] (b ∷ spelled bs))
    go true h = (omega arith, refl)
    go false h = (omega (arith, h.0), ap (λ x. b ∷ x) h.1)

pub spelled_short : (bs : List ℕ) → length (spelled bs) ≤ length bs
spelled_short bs = (spelled_front bs).0

valid_by : (bs : List ℕ) → length bs ≡ 48 → is_name bs ≡ (is_text (spelled bs) && blank (drop (length (spelled bs)) bs))
valid_by bs l =
    let f = spelled_front bs in
    valid_parts bs (length (spelled bs)) f.0 (omega (arith, f.0)) f.1 ∙ ap (λ t. is_text t && blank (drop (length (spelled bs)) bs)) f.1

pub valid_told : (bs : List ℕ) (r : Bool) → length bs ≡ 48 → true ≡ is_text (spelled bs) → r ≡ blank (slice_range bs (length (spelled bs)) 48) → r ≡ is_name bs
valid_told bs r l t e =
    let n = length (spelled bs) in
    let k : slice_range bs n 48 ≡ drop n bs = take_all (48 - n) (drop n bs) (omega (arith, length-drop n bs)) in
    e ∙ ap blank k ∙ ap (λ x. x && blank (drop n bs)) t ∙ sym (valid_by bs l)

pub valid_not : (bs : List ℕ) (r : Bool) → length bs ≡ 48 → false ≡ is_text (spelled bs) → r ≡ false → r ≡ is_name bs
valid_not bs r l t e = e ∙ ap (λ x. x && blank (drop (length (spelled bs)) bs)) t ∙ sym (valid_by bs l)

-- zero bytes only, place by place
zeros_there : (b : ℕ) (bs : List ℕ) → (blank bs ≡ true → (k : ℕ) → k < length bs → get_or bs k 0 ≡ 0) → blank (b ∷ bs) ≡ true → (k : ℕ) → k < suc (length bs) → get_or (b ∷ bs) k 0 ≡ 0
zeros_there b bs ih h zero l = eqb-true b 0 (and_parts (eqb b 0) (blank bs) h).0
zeros_there b bs ih h (suc k) l = ih (and_parts (eqb b 0) (blank bs) h).1 k (omega arith)

blank_places : (bs : List ℕ) → Decides (blank bs) ((k : ℕ) → k < length bs → get_or bs k 0 ≡ 0)
blank_places [] = (λ _ k l. absurd (omega arith), λ _. refl)
blank_places (b ∷ bs) =
    (zeros_there b bs (blank_places bs).0, λ h. and_from (eqb b 0) (blank bs) (eq-eqb b 0 (h 0 (omega arith))) ((blank_places bs).1 (λ k l. h (suc k) (omega arith))))

-- the first n bytes are name bytes, and the others are zero
record Front (bytes : List ℕ) (n : ℕ) : Type 0 where
  few : n ≤ length bytes
  front : (k : ℕ) → k < n → name_byte (get_or bytes k 0) ≡ true
  rest : (k : ℕ) → n ≤ k → k < length bytes → get_or bytes k 0 ≡ 0

front_name : (b : ℕ) (bs : List ℕ) (n : ℕ) → name_byte b ≡ true → Front bs n → Front (b ∷ bs) (suc n)
front_name b bs n h f = record { few = omega (arith, f.few); front = at_front; rest = at_rest }
  where
    at_front : (k : ℕ) → k < suc n → name_byte (get_or (b ∷ bs) k 0) ≡ true
    at_front zero l = h
    at_front (suc k) l = f.front k (omega arith)

    at_rest : (k : ℕ) → suc n ≤ k → k < suc (length bs) → get_or (b ∷ bs) k 0 ≡ 0
    at_rest zero l m = absurd (omega arith)
    at_rest (suc k) l m = f.rest k (omega arith) (omega arith)

front_tail : (b : ℕ) (bs : List ℕ) (n : ℕ) → Front (b ∷ bs) (suc n) → Front bs n
front_tail b bs n f = record { few = omega (arith, f.few); front = λ k l. f.front (suc k) (omega arith); rest = λ k l m. f.rest (suc k) (omega arith) (omega arith) }

front_zeros : (bs : List ℕ) → blank bs ≡ true → Front bs 0
front_zeros bs h = record { few = omega arith; front = λ k l. absurd (omega arith); rest = λ k l m. (blank_places bs).0 h k m }

padded_front : (bs : List ℕ) → padded bs ≡ true → (n : ℕ) × Front bs n
padded_front [] h = (0, front_zeros [] refl)
padded_front (b ∷ bs) h = elim (cases_Bool (name_byte b)) [
  | inl y ↦ let f = padded_front bs (sym (padded_yes b bs y) ∙ h) in (suc f.0, front_name b bs f.0 y f.1)
  | inr n ↦ (0, front_zeros (b ∷ bs) (sym (padded_no b bs n) ∙ h))
]

front_padded : (bs : List ℕ) (n : ℕ) → Front bs n → padded bs ≡ true
front_padded [] n f = refl
front_padded (b ∷ bs) zero f =
    let z = (blank_places (b ∷ bs)).1 (λ k l. f.rest k (omega arith) l) in
    let n : name_byte b ≡ false = rw (f.rest 0 (omega arith) (omega arith)) refl in
    padded_no b bs n ∙ z
front_padded (b ∷ bs) (suc n) f = padded_yes b bs (f.front 0 (omega arith)) ∙ front_padded bs n (front_tail b bs n f)

name_spells : (bs : List ℕ) → is_name bs ≡ true → (n : ℕ) × Spells bs n
name_spells [] h = absurd (false≢true h)
name_spells (b ∷ bs) h =
    let p = and_parts (name_byte b) (padded bs) h in
    let f = padded_front bs p.1 in
    let g = front_name b bs f.0 p.0 f.1 in
    (suc f.0, record { some = omega arith; few = g.few; front = g.front; rest = g.rest })

spells_name : (bs : List ℕ) (n : ℕ) → Spells bs n → is_name bs ≡ true
spells_name [] n s = absurd (omega (arith, s.some, s.few))
spells_name (b ∷ bs) zero s = absurd (omega (arith, s.some))
spells_name (b ∷ bs) (suc n) s =
    and_from (name_byte b) (padded bs) (s.front 0 (omega arith)) (front_padded bs n (front_tail b bs n (record { few = s.few; front = s.front; rest = s.rest })))

pub valid_names : (bs : List ℕ) → Decides (is_name bs) ((n : ℕ) × Spells bs n)
valid_names bs = (name_spells bs, λ s. spells_name bs s.0 s.1)

-- a text with its padding
blank_zeros : (n : ℕ) → blank (replicate n 0) ≡ true
blank_zeros zero = refl
blank_zeros (suc n) = blank_zeros n

spelled_zeros : (n : ℕ) → spelled (replicate n 0) ≡ []
spelled_zeros zero = refl
spelled_zeros (suc n) = refl

padded_zeros : (n : ℕ) → padded (replicate n 0) ≡ true
padded_zeros zero = refl
padded_zeros (suc n) = blank_zeros n

padded_text : (t : List ℕ) (n : ℕ) → name_bytes t ≡ true → padded (t ++ replicate n 0) ≡ true
padded_text [] n h = padded_zeros n
padded_text (b ∷ t) n h =
    let p = and_parts (name_byte b) (name_bytes t) h in
    padded_yes b (t ++ replicate n 0) p.0 ∙ padded_text t n p.1

spelled_text : (t : List ℕ) (n : ℕ) → name_bytes t ≡ true → spelled (t ++ replicate n 0) ≡ t
spelled_text [] n h = spelled_zeros n
spelled_text (b ∷ t) n h =
    let p = and_parts (name_byte b) (name_bytes t) h in
    rw (not_zero b p.0) (ap (λ x. b ∷ x) (spelled_text t n p.1))

name_text : (t : List ℕ) (n : ℕ) → 1 ≤ length t → name_bytes t ≡ true → is_name (t ++ replicate n 0) ≡ true
name_text [] n l h = absurd (omega arith)
name_text (b ∷ t) n l h =
    let p = and_parts (name_byte b) (name_bytes t) h in
    and_from (name_byte b) (padded (t ++ replicate n 0)) p.0 (padded_text t n p.1)

pub held_yes : (t : List ℕ) → is_text t ≡ true → held t ≡ t ++ replicate (48 - length t) 0
held_yes t h = rw h

held_no : (t : List ℕ) → is_text t ≡ false → held t ≡ replicate 48 0
held_no t h = rw h

text_parts : (t : List ℕ) → is_text t ≡ true → (1 ≤ length t) × (name_bytes t ≡ true)
text_parts t h =
    let a = and_parts (leb 1 (length t)) (leb (length t) 48 && name_bytes t) h in
    (leb-true 1 (length t) a.0, (and_parts (leb (length t) 48) (name_bytes t) a.1).1)

pub names_stand : NamesStand
names_stand = record { valid = valid_names; texts = texts; back = λ t h. let p = text_parts t h in ap spelled (held_yes t h) ∙ spelled_text t (48 - length t) p.1 }
  where
    texts : (t : List ℕ) → is_name (held t) ≡ is_text t
    texts t = elim (cases_Bool (is_text t)) [
      | inl y ↦ let p = text_parts t y in ap is_name (held_yes t y) ∙ name_text t (48 - length t) p.0 p.1 ∙ sym y
      | inr n ↦ ap is_name (held_no t n) ∙ sym n
    ]
