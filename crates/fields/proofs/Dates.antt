-- A date with a time is read from its text, and from no other.
use Rattle.std.proofs.Common.{◌≡◌, ℕ, ◌+◌, ◌-◌, ◌*◌, ◌/◌, ◌%◌, ◌<◌, true, List, ◌∷◌, ◌++◌, Option, Some, None, Bool, false, IsTrue, ◌↔◌, MatchOption, sym, refl, ap, ◌∙◌, subst, arith}
use Rattle.std.specs.Bool.{then_some}
use Rattle.std.proofs.lemmas.Slice.Eq.{text_from_reads}
use Rattle.std.proofs.lemmas.Bool.{true≢false, lt-ltb, ltb-true, le-leb, leb-true, and_from, and_parts}
use Rattle.calendar.specs.declared.dates.Stamp.{Stamp}
use Rattle.calendar.specs.Calendar.{Valid}
use Rattle.calendar.proofs.Unique.{month_days_le}
use Rattle.fields.specs.Digits.{two}
use Rattle.fields.specs.Stamps.{is_valid, stamp_text, time_text, stamp_guess, stamp_read, DigitsSay, DigitsRead}
use Rattle.fields.proofs.Checking.{checked_print, checked_only, checked_from}

-- the test says that a stamp is valid
pub valid_from : (d : Stamp) → is_valid d ≡ true → Valid d
valid_from d h =
    let a = and_parts _ _ h in
    let y = and_parts _ _ a.0 in
    let b = and_parts _ _ a.1 in
    let m = and_parts _ _ b.0 in
    let e = and_parts _ _ b.1 in
    let n = and_parts _ _ e.0 in
    let f = and_parts _ _ e.1 in
    let g = and_parts _ _ f.1 in
    record {
      first_year = leb-true _ _ y.0;
      last_year = leb-true _ _ y.1;
      first_month = leb-true _ _ m.0;
      last_month = leb-true _ _ m.1;
      first_day = leb-true _ _ n.0;
      last_day = leb-true _ _ n.1;
      last_hour = ltb-true _ _ f.0;
      last_minute = ltb-true _ _ g.0;
      last_second = ltb-true _ _ g.1;
    }

-- a valid stamp passes the test
pub valid_to : (d : Stamp) → Valid d → is_valid d ≡ true
valid_to d v =
    and_from _ _ (and_from _ _ (le-leb _ _ v.first_year) (le-leb _ _ v.last_year))
    (and_from _ _ (and_from _ _ (le-leb _ _ v.first_month) (le-leb _ _ v.last_month))
    (and_from _ _ (and_from _ _ (le-leb _ _ v.first_day) (le-leb _ _ v.last_day))
    (and_from _ _ (lt-ltb _ _ v.last_hour) (and_from _ _ (lt-ltb _ _ v.last_minute) (lt-ltb _ _ v.last_second)))))

-- a stamp by its parts
abbrev made : ℕ → ℕ → ℕ → ℕ → ℕ → ℕ → Stamp
made y m d h i s = record { year = y; month = m; day = d; hour = h; minute = i; second = s }

two_back : (n : ℕ) → n < 100 → (48 + n / 10 - 48) * 10 + (48 + n % 10 - 48) ≡ n
two_back n h = omega arith

four_back : (n : ℕ) → n < 10000 → ((48 + n / 100 / 10 - 48) * 10 + (48 + n / 100 % 10 - 48)) * 100 + ((48 + n % 100 / 10 - 48) * 10 + (48 + n % 100 % 10 - 48)) ≡ n
four_back n h = ap (λ k. k * 100 + ((48 + n % 100 / 10 - 48) * 10 + (48 + n % 100 % 10 - 48))) (two_back (n / 100) (omega arith)) ∙ (ap (λ k. n / 100 * 100 + k) (two_back (n % 100) (omega arith)) ∙ omega arith)

same : (y m d h i s : ℕ) (e : Stamp) → y ≡ e.year → m ≡ e.month → d ≡ e.day → h ≡ e.hour → i ≡ e.minute → s ≡ e.second → made y m d h i s ≡ e
same y m d h i s e py pm pd ph pi ps =
    ap (λ k. made k m d h i s) py
    ∙ (ap (λ k. made e.year k d h i s) pm
    ∙ (ap (λ k. made e.year e.month k h i s) pd
    ∙ (ap (λ k. made e.year e.month e.day k i s) ph
    ∙ (ap (λ k. made e.year e.month e.day e.hour k s) pi ∙ ap (λ k. made e.year e.month e.day e.hour e.minute k) ps))))

-- the digits of a stamp make its text
pub stamp_digits : (t : List ℕ) (d : Stamp) → DigitsSay t d → t ≡ stamp_text d
unfolding stamp_text
stamp_digits t d w =
    text_from_reads t (two (d.year / 100) ++ (two (d.year % 100) ++ (two d.month ++ (two d.day ++ 84 ∷ time_text d)))) w.size
    (w.centuries.tens, (w.centuries.ones, (w.years.tens, (w.years.ones, (w.months.tens, (w.months.ones, (w.days.tens, (w.days.ones, (w.letter, (w.hours.tens, (w.hours.ones, (w.minutes.tens, (w.minutes.ones, (w.seconds.tens, (w.seconds.ones, tt)))))))))))))))

-- what a text says of a stamp, the guess from it finds again
pub guess_back : (t : List ℕ) (d : Stamp) → DigitsSay t d → stamp_guess t ≡ d
unfolding stamp_text
guess_back t d w =
    let c = w.centuries.below in
    ap stamp_guess (stamp_digits t d w)
    ∙ same _ _ _ _ _ _ d (four_back d.year (omega arith)) (two_back d.month w.months.below) (two_back d.day w.days.below) (two_back d.hour w.hours.below) (two_back d.minute w.minutes.below) (two_back d.second w.seconds.below)

-- a valid day has two digits
pub day_short : (d : Stamp) → Valid d → d.day < 100
day_short d v = omega (arith, month_days_le d.year d.month v.last_month, v.last_day)

-- the text of a valid stamp has its digits
pub valid_digits : (d : Stamp) → Valid d → DigitsSay (stamp_text d) d
unfolding stamp_text
valid_digits d v =
    record {
      size = refl;
      letter = refl;
      centuries = record { below = omega arith; tens = refl; ones = refl };
      years = record { below = omega arith; tens = refl; ones = refl };
      months = record { below = omega arith; tens = refl; ones = refl };
      days = record { below = day_short d v; tens = refl; ones = refl };
      hours = record { below = omega arith; tens = refl; ones = refl };
      minutes = record { below = omega arith; tens = refl; ones = refl };
      seconds = record { below = omega arith; tens = refl; ones = refl };
    }

-- the guess from the text of a valid stamp is that stamp
pub stamp_back : (d : Stamp) → is_valid d ≡ true → stamp_guess (stamp_text d) ≡ d
stamp_back d h = guess_back (stamp_text d) d (valid_digits d (valid_from d h))

pub read_text : (d : Stamp) → Valid d → stamp_read (stamp_text d) ≡ Some d
unfolding stamp_read
read_text d v = let h = valid_to d v in checked_print is_valid stamp_text stamp_guess d h (stamp_back d h)

pub read_only : (t : List ℕ) (d : Stamp) → stamp_read t ≡ Some d → Valid d × (t ≡ stamp_text d)
unfolding stamp_read
read_only t d e = let p = checked_only is_valid stamp_text stamp_guess t d e in (valid_from d p.0, p.1)

-- what has the digits of no stamp is read as none
pub no_digits : (t : List ℕ) → DigitsRead t None → None ≡ stamp_read t
unfolding stamp_read
no_digits t never =
    checked_from is_valid stamp_text stamp_guess stamp_back t None
    (λ d h e. never d (subst (λ l. DigitsSay l d) (sym e) (valid_digits d (valid_from d h))))

-- the digits of a valid stamp are read as that stamp
pub valid_read : (t : List ℕ) (d : Stamp) → DigitsSay t d → Valid d → Some d ≡ stamp_read t
unfolding stamp_read
valid_read t d w v = checked_from is_valid stamp_text stamp_guess stamp_back t (Some d) (valid_to d v, stamp_digits t d w)

-- the digits of a stamp that is not valid are read as none
pub invalid_read : (t : List ℕ) (d : Stamp) → DigitsSay t d → (Valid d → ⊥) → None ≡ stamp_read t
unfolding stamp_read
invalid_read t d w never =
    checked_from is_valid stamp_text stamp_guess stamp_back t None
    (λ e h p.
    let v = valid_from e h in
    never (subst (λ x. Valid x) (sym (guess_back t e (subst (λ l. DigitsSay l e) (sym p) (valid_digits e v))) ∙ guess_back t d w) v))

-- the digits are read first, and then the stamp is tested
pub filtered : (t : List ℕ) (r o : Option Stamp) (tests : Stamp → Bool → Type 0) → ((d : Stamp) (b : Bool) → tests d b → IsTrue b ↔ Valid d) → DigitsRead t r → MatchOption r (o ≡ None) (λ d. (b : Bool) × tests d b × (o ≡ then_some b d)) → o ≡ stamp_read t
filtered t None o tests h w e = e ∙ no_digits t w
filtered t (Some d) o tests h w (true, k, e) = e ∙ valid_read t d w ((h d true k).0 refl)
filtered t (Some d) o tests h w (false, k, e) = e ∙ invalid_read t d w (λ v. true≢false (sym ((h d false k).1 v)))
