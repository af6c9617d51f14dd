-- The digits after the sign of an offset, and the size that they say.
use Rattle.std.proofs.Common.{◌≡◌, ℕ, ◌/◌, ◌%◌, ◌<◌, eqb, ◌⊎◌, List, [], ◌∷◌, ◌++◌, length, get_or, sym, refl, ap, ◌∙◌, inl, inr, ⊎_elim, arith}
use Rattle.std.proofs.lemmas.Slice.Eq.{text_from_reads}
use Rattle.std.proofs.lemmas.Bool.{eq-eqb, ne_eqb, cases_eq, cond-true, cond-false}
use Rattle.fields.specs.Digits.{two}
use Rattle.fields.specs.Offsets.{seconds_part, clock_text, clock, ClockSays}

pub seconds_none : (s : ℕ) → s ≡ 0 → seconds_part s ≡ []
seconds_none s e = cond-true (eqb s 0) [] (two s) (eq-eqb s 0 e)

pub seconds_some : (s : ℕ) → (s ≡ 0 → ⊥) → seconds_part s ≡ two s
seconds_some s e = cond-false (eqb s 0) [] (two s) (ne_eqb s 0 e)

-- the two forms of a text
pub forms : (t : List ℕ) (b n : ℕ) → t ≡ b ∷ clock_text n → ((n % 60 ≡ 0) × (t ≡ b ∷ two (n / 3600) ++ two (n / 60 % 60))) ⊎ ((n % 60 ≡ 0 → ⊥) × (t ≡ b ∷ two (n / 3600) ++ (two (n / 60 % 60) ++ two (n % 60))))
forms t b n e =
    ⊎_elim
    (λ z. inl (z, e ∙ ap (λ l. b ∷ two (n / 3600) ++ (two (n / 60 % 60) ++ l)) (seconds_none _ z)))
    (λ z. inr (z, e ∙ ap (λ l. b ∷ two (n / 3600) ++ (two (n / 60 % 60) ++ l)) (seconds_some _ z)))
    (cases_eq (n % 60) 0)

-- the digits say the size
pub clock_back : (t : List ℕ) (b n : ℕ) → n < 86400 → t ≡ b ∷ clock_text n → clock t ≡ n
clock_back t b n h e =
    ⊎_elim
    (λ f. ap clock f.1 ∙ omega (arith, f.0))
    (λ f. ap clock f.1 ∙ omega arith)
    (forms t b n e)

-- the digits of a size make its text
pub clock_digits : (t : List ℕ) (n : ℕ) → ClockSays t n → t ≡ get_or t 0 0 ∷ clock_text n
clock_digits t n w =
    let h = w.hours in
    let m = w.minutes in
    ⊎_elim
    (λ s.
    text_from_reads t (get_or t 0 0 ∷ two (n / 3600) ++ (two (n / 60 % 60) ++ [])) s.0 (refl, (h.tens, (h.ones, (m.tens, (m.ones, tt)))))
    ∙ ap (λ l. get_or t 0 0 ∷ two (n / 3600) ++ (two (n / 60 % 60) ++ l)) (sym (seconds_none _ s.1)))
    (λ s.
    text_from_reads t (get_or t 0 0 ∷ two (n / 3600) ++ (two (n / 60 % 60) ++ two (n % 60))) s.0 (refl, (h.tens, (h.ones, (m.tens, (m.ones, (s.2.tens, (s.2.ones, tt)))))))
    ∙ ap (λ l. get_or t 0 0 ∷ two (n / 3600) ++ (two (n / 60 % 60) ++ l)) (sym (seconds_some _ s.1)))
    w.seconds

-- the text of a size has its digits
pub text_digits : (t : List ℕ) (b n : ℕ) → n < 86400 → t ≡ b ∷ clock_text n → ClockSays t n
text_digits t b n k e =
    record {
      below = k;
      hours = record { below = omega arith; tens = ap (λ (l : List ℕ). get_or l 1 0) e; ones = ap (λ (l : List ℕ). get_or l 2 0) e };
      minutes = record { below = omega arith; tens = ap (λ (l : List ℕ). get_or l 3 0) e; ones = ap (λ (l : List ℕ). get_or l 4 0) e };
      seconds =
          ⊎_elim
          (λ f. inl (ap length f.1, f.0))
          (λ f. inr (ap length f.1, f.0, record { below = omega arith; tens = ap (λ (l : List ℕ). get_or l 5 0) f.1; ones = ap (λ (l : List ℕ). get_or l 6 0) f.1 }))
          (forms t b n e);
    }
