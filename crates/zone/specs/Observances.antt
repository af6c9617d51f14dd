-- The numbers that stand for observances. Assumes nothing.
use Rattle.std.specs.Prelude.{◌≡◌, ℕ, ◌<◌, Result, MatchResult}
use Rattle.zone.specs.declared.rows.Observance.{Observance}
use Rattle.zone.specs.declared.rows.Observance.TheVariants.{Standard, Daylight}
use Rattle.zone.specs.declared.rows.UnknownObservance.{UnknownObservance}

-- 0 for standard time, 1 for daylight saving time
abbrev pub observance_number : Observance → ℕ
observance_number Standard = 0
observance_number Daylight = 1

-- the observance with this number, or an error with a number that stands for none
abbrev pub StandsFor : ℕ → Result Observance UnknownObservance → Type 0
StandsFor n r = MatchResult r (λ observance. observance_number observance ≡ n) (λ e. (e.0 ≡ n) × (1 < n))
