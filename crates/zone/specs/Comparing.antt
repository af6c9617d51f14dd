-- Rows and names, compared. Assumes nothing.
use Rattle.std.specs.Prelude.{◌≡◌, ℕ, Bool, true, false, ◌&&◌, ◌⊎◌, List, [], ◌∷◌, Decides, ◌≢◌}
use Rattle.names.specs.Comparing.{before}
use Rattle.zone.specs.declared.rows.Observance.{Observance}
use Rattle.zone.specs.declared.rows.Observance.TheVariants.{Standard, Daylight}
use Rattle.zone.specs.declared.rows.Row.{Row}
use Rattle.zone.specs.Intervals.{same_number}

-- the same observance
abbrev pub same_observance : Observance → Observance → Bool
same_observance Standard Standard = true
same_observance Standard Daylight = false
same_observance Daylight Standard = false
same_observance Daylight Daylight = true

-- the same row: onset, from, to and observance
abbrev pub same_row : Row → Row → Bool
same_row a b = same_number a.onset b.onset && (same_number a.from b.from && (same_number a.to b.to && same_observance a.observance b.observance))

-- the same rows, row by row
abbrev pub same_rows : List Row → List Row → Bool
same_rows [] [] = true
same_rows [] (y ∷ ys) = false
same_rows (x ∷ xs) [] = false
same_rows (x ∷ xs) (y ∷ ys) = same_row x y && same_rows xs ys

-- byte order is strict, and of two lists of bytes that differ one comes before the other; rows are tested the same exactly when they are
pub record ComparisonsStand : Type 0 where
  pub never : (a : List ℕ) → before a a ≡ false
  pub chain : (a b c : List ℕ) → before a b ≡ true → before b c ≡ true → before a c ≡ true
  pub some : (a b : List ℕ) → (a ≢ b) → (before a b ≡ true) ⊎ (before b a ≡ true)
  pub rows : (a b : List Row) → Decides (same_rows a b) (a ≡ b)
