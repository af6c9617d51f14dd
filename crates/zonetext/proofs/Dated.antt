-- The values of the dated lines. Assumes nothing.
use Rattle.std.proofs.Common.{◌≡◌, ℕ, ◌-◌, ◌<◌, true, false, ◌⊎◌, eqb, List, length, take, drop, ℤ, Some, None, Ok, Err, codes, Option, Result, sym, refl, ap, ◌∙◌, inl, inr, arith}
use Rattle.std.specs.Result.{result_ok}
use Rattle.std.specs.Option.{option_map, option_and_then}
use Rattle.std.specs.Str.{bytes_eq}
use Rattle.std.proofs.lemmas.List.{length-take-le}
use Rattle.std.proofs.lemmas.Bool.{cases_eq, cond-true, cond-false, and_from, and_left, and_right, eq-eqb, ne_eqb}
use Rattle.calendar.specs.declared.dates.InvalidStamp.{InvalidStamp}
use Rattle.calendar.specs.declared.dates.Seconds.{Seconds}
use Rattle.calendar.specs.declared.dates.Stamp.{Stamp}
use Rattle.calendar.specs.Calendar.{SecondsFound}
use Rattle.fields.specs.Stamps.{stamp_read}
use Rattle.zonetext.specs.Values.{clocked, start_read, until_at, until_read}
use Rattle.fields.proofs.Dates.{read_only}
use Rattle.fields.proofs.Shapes.{stamp_length}
use Rattle.zonetext.specs.Stamps.{stamp_at}
use Rattle.zonetext.proofs.Valued.{start_only}

-- seconds by their number
abbrev some_seconds : ℤ → Option Seconds
some_seconds z = Some (record { 0 = z })

pub start_some : (t : List ℕ) (d : Stamp) (r : Result Seconds InvalidStamp) (o : Option Seconds) → Some d ≡ stamp_read t → SecondsFound d r → o ≡ result_ok r → o ≡ start_read t
unfolding start_read
start_some t d (Ok n) o e f g = g ∙ ap some_seconds f.value ∙ ap (λ o. option_map clocked o) e
start_some t d (Err x) o e f g = absurd (f (read_only t d (sym e)).0)

-- a text of another length says no local time
start_short : (t : List ℕ) → (length t ≡ 15 → ⊥) → start_read t ≡ None
start_short t n = by (start_read t) refl where
  by : (o : Option Seconds) → start_read t ≡ o → start_read t ≡ None
  by None e = e
  by (Some s) e = absurd (n (ap length (start_only t s e) ∙ stamp_length (stamp_at s.0)))

-- the text without its last byte, and that byte
pub until_yes : (t : List ℕ) → length t ≡ 16 → bytes_eq (drop 15 t) (codes "Z") ≡ true → until_read t ≡ option_and_then until_at (start_read (take 15 t))
unfolding until_read
until_yes t n z = cond-true _ (option_and_then until_at (start_read (take 15 t))) None (and_from (eqb (length t) 16) (bytes_eq (drop 15 t) (codes "Z")) (eq-eqb _ _ n) z)

until_no : (t : List ℕ) → (length t ≡ 16 → ⊥) ⊎ (bytes_eq (drop 15 t) (codes "Z") ≡ false) → until_read t ≡ None
unfolding until_read
until_no t (inl n) = cond-false _ (option_and_then until_at (start_read (take 15 t))) None (and_left (eqb (length t) 16) (bytes_eq (drop 15 t) (codes "Z")) (ne_eqb _ _ n))
until_no t (inr z) = cond-false _ (option_and_then until_at (start_read (take 15 t))) None (and_right (eqb (length t) 16) (bytes_eq (drop 15 t) (codes "Z")) z)

pub until_local : (t : List ℕ) → bytes_eq (drop (length t - 1) t) (codes "Z") ≡ false → None ≡ until_read t
until_local t z = elim (cases_eq (length t) 16) [
  | inl n ↦ let e : length t - 1 ≡ 15 = omega arith in sym (until_no t (inr (ap (λ k. bytes_eq (drop k t) (codes "Z")) (sym e) ∙ z)))
  | inr n ↦ sym (until_no t (inl n))
]

pub until_utc : (t : List ℕ) → 0 < length t → bytes_eq (drop (length t - 1) t) (codes "Z") ≡ true → until_read t ≡ option_and_then until_at (start_read (take (length t - 1) t))
until_utc t n z = elim (cases_eq (length t) 16) [
  | inl m ↦
      let k : length t - 1 ≡ 15 = omega arith in
      until_yes t m (ap (λ k. bytes_eq (drop k t) (codes "Z")) (sym k) ∙ z) ∙ ap (λ k. option_and_then until_at (start_read (take k t))) (sym k)
  | inr m ↦
      let l : length (take (length t - 1) t) ≡ length t - 1 = length-take-le (length t - 1) t (omega arith) in
      until_no t (inl m) ∙ ap (option_and_then until_at) (sym (start_short (take (length t - 1) t) (λ q. m (omega arith))))
]
