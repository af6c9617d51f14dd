-- A name that is spelled and padded again is itself. Assumes nothing.
use Rattle.std.proofs.Common.{◌≡◌, ℕ, suc, ◌+◌, ◌-◌, true, ◌&&◌, eqb, leb, List, [], ◌∷◌, ◌++◌, length, replicate, sym, refl, ap, ◌∙◌, inl, inr, arith}
use Rattle.std.proofs.lemmas.List.{length-append, length-replicate}
use Rattle.std.proofs.lemmas.Bool.{eqb-true, le-leb, leb-true, and_parts, and_from, cases_Bool, cond-true, cond-false}
use Rattle.names.specs.Names.{name_byte, blank, padded, is_name, name_bytes, is_text, held, spelled}
use Rattle.names.proofs.Spelling.{not_zero, padded_yes, padded_no, held_yes}

zeros : (bs : List ℕ) → blank bs ≡ true → bs ≡ replicate (length bs) 0
zeros [] h = refl
zeros (b ∷ bs) h = let p = and_parts (eqb b 0) (blank bs) h in λ i. eqb-true b 0 p.0 i ∷ zeros bs p.1 i

-- bytes that are padded: what is spelled, and zeros
record Unpadded (bs : List ℕ) : Type 0 where
  count : ℕ
  bytes : name_bytes (spelled bs) ≡ true
  whole : bs ≡ spelled bs ++ replicate count 0

unpad : (bs : List ℕ) → padded bs ≡ true → Unpadded bs
unpad [] h = record { count = 0; bytes = refl; whole = refl }
unpad (b ∷ bs) h = elim (cases_Bool (name_byte b)) [
  | inl y ↦
      let u = unpad bs (sym (padded_yes b bs y) ∙ h) in
      let s : spelled (b ∷ bs) ≡ b ∷ spelled bs = cond-false (eqb b 0) [] (b ∷ spelled bs) (not_zero b y) in
      record { count = u.count; bytes = ap name_bytes s ∙ and_from (name_byte b) (name_bytes (spelled bs)) y u.bytes; whole = ap (λ l. b ∷ l) u.whole ∙ ap (λ l. l ++ replicate u.count 0) (sym s) }
  | inr x ↦
      let p = and_parts (eqb b 0) (blank bs) (sym (padded_no b bs x) ∙ h) in
      let s : spelled (b ∷ bs) ≡ [] = cond-true (eqb b 0) [] (b ∷ spelled bs) p.0 in
      record { count = suc (length bs); bytes = ap name_bytes s; whole = (λ i. eqb-true b 0 p.0 i ∷ zeros bs p.1 i) ∙ ap (λ l. l ++ replicate (suc (length bs)) 0) (sym s) }
]

pub name_back : (bs : List ℕ) → length bs ≡ 48 → is_name bs ≡ true → (is_text (spelled bs) ≡ true) × (held (spelled bs) ≡ bs)
name_back [] l h = absurd (omega arith)
name_back (b ∷ bs) l h =
    let p = and_parts (name_byte b) (padded bs) h in
    let u = unpad (b ∷ bs) (padded_yes b bs p.0 ∙ p.1) in
    let t = spelled (b ∷ bs) in
    let one = ap length (cond-false (eqb b 0) [] (b ∷ spelled bs) (not_zero b p.0)) in
    let all : length (b ∷ bs) ≡ length t + u.count = ap length u.whole ∙ length-append t (replicate u.count 0) ∙ ap (λ k. length t + k) (length-replicate u.count 0) in
    let left : 48 - length t ≡ u.count = omega arith in
    let y : is_text t ≡ true = and_from (leb 1 (length t)) (leb (length t) 48 && name_bytes t) (le-leb 1 (length t) (omega arith)) (and_from (leb (length t) 48) (name_bytes t) (le-leb (length t) 48 (omega arith)) u.bytes) in
    (y, held_yes t y ∙ ap (λ k. t ++ replicate k 0) left ∙ sym u.whole)

-- a name that is held has 48 bytes
pub held_long : (t : List ℕ) → is_text t ≡ true → length (held t) ≡ 48
held_long t h =
    let p = and_parts (leb 1 (length t)) (leb (length t) 48 && name_bytes t) h in
    let few = leb-true (length t) 48 (and_parts (leb (length t) 48) (name_bytes t) p.1).0 in
    let zeros : List ℕ = replicate (48 - length t) 0 in
    let r : length zeros ≡ 48 - length t = length-replicate (48 - length t) 0 in
    let a = length-append t zeros in
    let all : length (t ++ zeros) ≡ 48 = omega arith in
    ap length (held_yes t h) ∙ all
