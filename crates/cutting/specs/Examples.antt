-- Worked examples: a year of Central European time. Assumes nothing.
use Rattle.std.specs.Prelude.{◌≡◌, ℕ, List, [], ◌∷◌, pos}
use Rattle.zone.specs.declared.rows.Interval.{Interval}
use Rattle.zone.specs.declared.rows.Row.{Row}
use Rattle.zone.specs.declared.rows.Observance.{Observance}
use Rattle.zone.specs.declared.rows.Observance.TheVariants.{Standard, Daylight}
use Rattle.zone.specs.Refusals.{answered, refused}
use Rattle.zone.specs.Rows.{Sound, window_rows}
use Rattle.cutting.specs.Cutting.{cut, local}
use Rattle.cutting.specs.Outcomes.{local_outcome}

abbrev pub row : ℕ → ℕ → ℕ → Observance → Row
row onset from to observance = record { onset = pos onset; from = pos from; to = pos to; observance = observance }

abbrev pub interval : ℕ → ℕ → Interval
interval start end = record { start = pos start; end = pos end }

-- the year 2024
abbrev pub year : Interval
year = interval 1704067200 1735689600

abbrev pub rows : List Row
rows = row 1704067200 3600 3600 Standard ∷ row 1711846800 3600 7200 Daylight ∷ row 1729990800 7200 3600 Standard ∷ []

pub record Worked : Type 0 where
  pub window : Sound window_rows year rows
  pub before : (local rows (pos 1711846799)).time ≡ pos 1711850399
  pub after : (local rows (pos 1711846800)).time ≡ pos 1711854000
  pub last : local_outcome year rows (pos 1735689599) ≡ answered (local rows (pos 1735689599))
  pub past : local_outcome year rows (pos 1735689600) ≡ refused 12 []
  pub summer : cut rows (interval 1711846800 1729990800) ≡ row 1711846800 3600 7200 Daylight ∷ []
  pub shifted : cut rows (interval 1711846801 1729990801) ≡ row 1711846801 7200 7200 Daylight ∷ row 1729990800 7200 3600 Standard ∷ []
