-- An offset is read from its text, and from no other.
use Rattle.std.proofs.Common.{◌≡◌, ℕ, suc, ◌<◌, true, List, ◌∷◌, get_or, ℤ, pos, negsuc, neg_ℤ, nat_abs, Some, None, Option, sym, refl, ap, ◌∙◌, subst}
use Rattle.std.proofs.lemmas.Bool.{lt-ltb, ltb-true}
use Rattle.fields.specs.declared.types.Offset.{Offset}
use Rattle.fields.specs.Offsets.{sign, InDay, in_day, clock_text, printed, offset, offset_guess, parsed, ClockSays, ClockRead, Signed}
use Rattle.fields.proofs.Checking.{checked_print, checked_only, checked_from}
use Rattle.fields.proofs.Clocks.{clock_back, clock_digits, text_digits}

signed_back : (n : ℤ) → nat_abs n < 86400 → offset_guess (sign n ∷ clock_text (nat_abs n)) ≡ offset n
signed_back (pos n) h = ap (λ k. offset (pos k)) (clock_back _ 43 n h refl)
signed_back (negsuc n) h = ap (λ k. offset (neg_ℤ (pos k))) (clock_back _ 45 (suc n) h refl)

-- the guess from the text of an offset is that offset
pub guess_back : (z : Offset) → in_day z ≡ true → offset_guess (printed z) ≡ z
unfolding printed
guess_back z h = signed_back z.0 (ltb-true _ _ h)

pub parsed_printed : (z : Offset) → InDay z → parsed (printed z) ≡ Some z
unfolding parsed
parsed_printed z h = let k = lt-ltb _ _ h in checked_print in_day printed offset_guess z k (guess_back z k)

pub parsed_only : (t : List ℕ) (z : Offset) → parsed t ≡ Some z → InDay z × (t ≡ printed z)
unfolding parsed
parsed_only t z e = let p = checked_only in_day printed offset_guess t z e in (ltb-true _ _ p.0, p.1)

-- no size, no offset
pub no_clock : (t : List ℕ) → ClockRead t None → None ≡ parsed t
unfolding parsed printed
no_clock t never =
    checked_from in_day printed offset_guess guess_back t None
    (λ z h e. never (nat_abs z.0) (text_digits t (sign z.0) (nat_abs z.0) (ltb-true _ _ h) e))

-- a size with a sign
pub with_sign : (t : List ℕ) (n : ℕ) (r : Option Offset) → ClockSays t n → Signed (get_or t 0 0) n r → r ≡ parsed t
unfolding parsed printed
with_sign t n None w never =
    checked_from in_day printed offset_guess guess_back t None
    (λ z h e.
    never z
    (record {
      size = sym (clock_back t (sign z.0) (nat_abs z.0) (ltb-true _ _ h) e) ∙ clock_back t (get_or t 0 0) n w.below (clock_digits t n w);
      sign_byte = sym (ap (λ (l : List ℕ). get_or l 0 0) e);
    }))
with_sign t n (Some z) w s =
    checked_from in_day printed offset_guess guess_back t (Some z)
    (lt-ltb _ _ (subst (λ k. k < 86400) (sym s.size) w.below), clock_digits t n w ∙ (ap (λ b. b ∷ clock_text n) (sym s.sign_byte) ∙ ap (λ k. sign z.0 ∷ clock_text k) (sym s.size)))
