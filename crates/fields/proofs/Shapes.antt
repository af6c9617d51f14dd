-- The lengths and the bytes of the texts.
use Rattle.std.proofs.Common.{◌≡◌, ℕ, ◌+◌, ◌/◌, ◌%◌, ◌<◌, List, ◌∷◌, ◌++◌, length, ℤ, pos, negsuc, nat_abs, sym, refl, ap, subst, inl, inr, ⊎_elim, arith}
use Rattle.std.specs.List.{AllByRecursion}
use Rattle.std.proofs.ByRecursion.{All-append}
use Rattle.std.proofs.lemmas.Bool.{cases_eq}
use Rattle.calendar.specs.declared.dates.Stamp.{Stamp}
use Rattle.calendar.specs.Calendar.{Valid}
use Rattle.fields.specs.declared.types.Offset.{Offset}
use Rattle.fields.specs.Digits.{two}
use Rattle.fields.specs.Offsets.{sign, InDay, printed, seconds_part}
use Rattle.fields.specs.Stamps.{stamp_text, time_text, DigitsSay}
use Rattle.fields.specs.Laws.{FieldByte, OffsetLength}
use Rattle.fields.proofs.Clocks.{seconds_none, seconds_some}
use Rattle.fields.proofs.Dates.{valid_digits}

digit_byte : (n : ℕ) → n < 10 → FieldByte (48 + n)
digit_byte n h = record { above = omega arith; below = omega arith; no_colon = λ e. omega arith }

-- two digits are plain bytes
pub two_bytes : (n : ℕ) → n < 100 → AllByRecursion FieldByte (two n)
two_bytes n h = (digit_byte (n / 10) (omega arith), (digit_byte (n % 10) (omega arith), tt))

sign_plain : (n : ℤ) → FieldByte (sign n)
sign_plain (pos n) = record { above = omega arith; below = omega arith; no_colon = λ e. omega arith }
sign_plain (negsuc n) = record { above = omega arith; below = omega arith; no_colon = λ e. omega arith }

seconds_bytes : (s : ℕ) → s < 60 → AllByRecursion FieldByte (seconds_part s)
seconds_bytes s h =
    ⊎_elim
    (λ e. subst (λ l. AllByRecursion FieldByte l) (sym (seconds_none s e)) tt)
    (λ e. subst (λ l. AllByRecursion FieldByte l) (sym (seconds_some s e)) (two_bytes s (omega arith)))
    (cases_eq s 0)

-- two digits before plain bytes
pub two_before : (n : ℕ) (l : List ℕ) → n < 100 → AllByRecursion FieldByte l → AllByRecursion FieldByte (two n ++ l)
two_before n l h w = All-append FieldByte (two n) l (two_bytes n h) w

pub offset_bytes : (z : Offset) → InDay z → AllByRecursion FieldByte (printed z)
unfolding printed
offset_bytes z h =
    let n : ℕ = nat_abs z.0 in (
      sign_plain z.0,
      two_before (n / 3600) (two (n / 60 % 60) ++ seconds_part (n % 60)) (omega arith)
          (two_before (n / 60 % 60) (seconds_part (n % 60)) (omega arith) (seconds_bytes (n % 60) (omega arith))),
    )

pub offset_length : (z : Offset) → OffsetLength z
unfolding printed
offset_length z =
    let short = λ (e : nat_abs z.0 % 60 ≡ 0). ap (λ l. length (sign z.0 ∷ two (nat_abs z.0 / 3600) ++ (two (nat_abs z.0 / 60 % 60) ++ l))) (seconds_none _ e) in
    let long = λ (e : nat_abs z.0 % 60 ≡ 0 → ⊥). ap (λ l. length (sign z.0 ∷ two (nat_abs z.0 / 3600) ++ (two (nat_abs z.0 / 60 % 60) ++ l))) (seconds_some _ e) in
    record { short = short; long = long; either = ⊎_elim (λ e. inl (short e)) (λ e. inr (long e)) (cases_eq (nat_abs z.0 % 60) 0) }

pub stamp_length : (d : Stamp) → length (stamp_text d) ≡ 15
unfolding stamp_text
stamp_length d = refl

time_bytes : (d : Stamp) → DigitsSay (stamp_text d) d → AllByRecursion FieldByte (time_text d)
time_bytes d w =
    two_before d.hour (two d.minute ++ two d.second) w.hours.below
    (two_before d.minute (two d.second) w.minutes.below (two_bytes d.second w.seconds.below))

pub stamp_bytes : (d : Stamp) → Valid d → AllByRecursion FieldByte (stamp_text d)
unfolding stamp_text
stamp_bytes d v =
    let w = valid_digits d v in
    let y = w.centuries.below in
    two_before (d.year / 100) (two (d.year % 100) ++ (two d.month ++ (two d.day ++ 84 ∷ time_text d))) (omega arith)
    (two_before (d.year % 100) (two d.month ++ (two d.day ++ 84 ∷ time_text d)) (omega arith)
    (two_before d.month (two d.day ++ 84 ∷ time_text d) w.months.below
    (two_before d.day (84 ∷ time_text d) w.days.below
    (record { above = omega arith; below = omega arith; no_colon = λ e. omega arith }, time_bytes d w))))
