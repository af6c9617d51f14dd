-- What `parse` answers, as the number that a word spells. Assumes nothing.
use Rattle.std.proofs.Common.{◌≡◌, ◌≢◌, ℕ, ◌^◌, ◌<◌, ◌≤◌, Bool, true, false, if◌then◌else◌, ◌&&◌, eqb, ltb, leb, List, [], ◌∷◌, length, get_or, drop, ℤ, Some, None, Ok, Err, IsUtf8, IsAscii, Decides, Result, refl, ap, inl, inr, arith, rules}
use mir.Syntax.{Width}
use mir.Val.{hbits}
use Rattle.std.specs.Result.{OkIff, result_ok}
use Rattle.std.specs.Str.Parse.{ParsesSigned, ParsesUnsigned}
use Rattle.std.specs.Char.{is_ascii_digit}
use Rattle.std.specs.Str.{all_ascii_digits}
use Rattle.std.proofs.lemmas.Str.Ascii.{IsAscii-nil, IsAscii-cons}
use Rattle.std.proofs.lemmas.Str.Parse.{IsNumeralModel, numerals_by_fold, parse_plain, parse_signed_minus, parse_signed_plain}
use Rattle.std.proofs.lemmas.Bool.{cases_Bool, and_parts, eqb-true, eqb-false}
use Rattle.std.proofs.lemmas.Str.{IsUtf8-nil, IsUtf8-from_ascii}
use Rattle.std.proofs.lemmas.Bool.Decides.{nat_tests}
use Rattle.command.specs.Numbers.{AsParsed, value_after, value, numeral, minus, plus, number, count}

-- `value` is what std calls the number of digits
own : IsNumeralModel (λ ds. all_ascii_digits ds ≡ true) (value_after 0)
own = numerals_by_fold _ (search rules) value_after (search rules)

-- a conversion, as an option
chosen : {T E : Type 0} (r : Result T E) (P : Type 0) (v : T) (b : Bool) → OkIff r P v → Decides b P → result_ok r ≡ (if b then Some v else None)
chosen (Ok x) P v b h d = rw (d.1 h.0) (ap (λ z. Some z) h.1)
chosen (Err e) P v b h d = elim (cases_Bool b) [ inl y ↦ absurd (h (d.0 y)) | inr n ↦ rw n ]

-- the tests of `number` decide what `parse` asks
at_most : (ds : List ℕ) (n : ℕ) → Decides (numeral ds && leb (value ds) n) ((all_ascii_digits ds ≡ true) × (0 < length ds) × (value ds ≤ n))
at_most ds n = grind (arith, nat_tests)

below : (ds : List ℕ) (n : ℕ) → Decides (numeral ds && ltb (value ds) n) ((all_ascii_digits ds ≡ true) × (0 < length ds) × (value ds < n))
below ds n = grind (arith, nat_tests)

-- what `parse` answers where no plus sign stands in front
pub parsed : {E : Type 0} (w : Width) (bs : List ℕ) (r : Result ℤ E) → ParsesSigned w 10 bs r → get_or bs 0 0 ≢ 43 → result_ok r ≡ number (hbits w) bs
parsed w bs r h p = elim (cases_Bool (minus bs)) [
  | inl y ↦ rw y (chosen r _ _ _ (parse_signed_minus own w bs r h (eqb-true _ _ y)) (at_most (drop 1 bs) (2 ^ hbits w)))
  | inr n ↦ rw n (chosen r _ _ _ (parse_signed_plain own w bs r h p (eqb-false _ _ n)) (below bs (2 ^ hbits w)))
]

-- digits are ASCII
ascii_digits : (ds : List ℕ) → all_ascii_digits ds ≡ true → IsAscii ds
ascii_digits [] h = IsAscii-nil
ascii_digits (d ∷ ds) h =
    let p = and_parts (is_ascii_digit d) (all_ascii_digits ds) h in
    let q = p.0 in
    let l : d < 128 = grind (arith, nat_tests) in
    IsAscii-cons d ds l (ascii_digits ds p.1)

-- what a numeral is made of
digits_of : (ds : List ℕ) (b : Bool) → (numeral ds && b) ≡ true → all_ascii_digits ds ≡ true
digits_of ds b h = (and_parts (ltb 0 (length ds)) (all_ascii_digits ds) (and_parts (numeral ds) b h).0).1

-- bytes that are no text spell no number
pub unread : (k : ℕ) (bs : List ℕ) → ¬ (IsUtf8 bs) → number k bs ≡ None
unread k [] bad = absurd (bad IsUtf8-nil)
unread k (b ∷ bs) bad = elim (cases_Bool (eqb b 45)) [
  | inl y ↦ elim (cases_Bool (numeral bs && leb (value bs) (2 ^ k))) [
    | inl t ↦ let e = eqb-true b 45 y in absurd (bad (IsUtf8-from_ascii (b ∷ bs) (IsAscii-cons b bs (omega arith) (ascii_digits bs (digits_of bs _ t)))))
    | inr n ↦ rw (y, n)
  ]
  | inr m ↦ elim (cases_Bool (numeral (b ∷ bs) && ltb (value (b ∷ bs)) (2 ^ k))) [
    | inl t ↦ absurd (bad (IsUtf8-from_ascii (b ∷ bs) (ascii_digits (b ∷ bs) (digits_of (b ∷ bs) _ t))))
    | inr n ↦ rw (m, n)
  ]
]

-- a word with a plus sign in front spells no number
pub plus_none : (k : ℕ) (bs : List ℕ) → plus bs ≡ true → number k bs ≡ None
plus_none k [] h = refl
plus_none k (b ∷ bs) h =
    let e = eqb-true b 43 h in
    let m : eqb b 45 ≡ false = grind (arith, nat_tests) in
    let d : is_ascii_digit b ≡ false = grind (arith, nat_tests) in
    let f : (numeral (b ∷ bs) && ltb (value (b ∷ bs)) (2 ^ k)) ≡ false = grind (arith, nat_tests) in
    rw (m, f)

-- digits alone likewise
pub uncounted : (bs : List ℕ) → ¬ (IsUtf8 bs) → count bs ≡ None
uncounted bs bad = elim (cases_Bool (numeral bs && ltb (value bs) (2 ^ 64))) [
  | inl t ↦ absurd (bad (IsUtf8-from_ascii bs (ascii_digits bs (digits_of bs _ t))))
  | inr n ↦ rw n
]

pub plus_uncounted : (bs : List ℕ) → plus bs ≡ true → count bs ≡ None
plus_uncounted [] h = refl
plus_uncounted (b ∷ bs) h =
    let e = eqb-true b 43 h in
    let d : is_ascii_digit b ≡ false = grind (arith, nat_tests) in
    let f : (numeral (b ∷ bs) && ltb (value (b ∷ bs)) (2 ^ 64)) ≡ false = grind (arith, nat_tests) in
    rw f

-- the numbers with a sign, and digits alone, are spelled as they are parsed
pub numbered : (w : Width) {E : Type 0} {parses : List ℕ → Result ℤ E → Type 0} → ((word : List ℕ) (r : Result ℤ E) → parses word r → ParsesSigned w 10 word r) → AsParsed parses (number (hbits w))
numbered w told = record {
  text = λ word r h p. parsed w word r (told word r h) (eqb-false _ _ p);
  no_text = unread (hbits w);
  signed = plus_none (hbits w);
}

pub counted : {E : Type 0} {parses : List ℕ → Result ℕ E → Type 0} → ((word : List ℕ) (r : Result ℕ E) → parses word r → ParsesUnsigned 64 10 word r) → AsParsed parses count
counted told = record {
  text = λ word r h p. chosen r _ _ _ (parse_plain own 64 word r (told word r h) (eqb-false _ _ p)) (below word (2 ^ 64));
  no_text = uncounted;
  signed = plus_uncounted;
}
