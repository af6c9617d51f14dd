-- What the row in force and the cut come to, in the words of the subject. Assumes nothing.
use Rattle.std.specs.Prelude.{◌≡◌, ℕ, ◌<◌, ◌≤◌, true, List, length, ℤ, ◌≤ℤ◌, ◌<ℤ◌}
use Rattle.zone.specs.declared.rows.Interval.{Interval}
use Rattle.zone.specs.declared.rows.Row.{Row}
use Rattle.zone.specs.Intervals.{within, has_instant}
use Rattle.zone.specs.Rows.{at, Covers}
use Rattle.cutting.specs.Cutting.{in_force, local, cut}

-- the row in force at t stands at place k: it has begun, and no row after it has
pub record InForceAt (rows : List Row) (t : ℤ) (k : ℕ) : Type 0 where
  pub place : k < length rows
  pub row : in_force rows t ≡ at rows k
  pub begun : (at rows k).onset ≤ℤ t
  pub latest : (j : ℕ) → k < j → j < length rows → t <ℤ (at rows j).onset

-- at each instant of the interval that rows cover, one of them is in force
abbrev pub SomeInForce : Type 0
SomeInForce = (i : Interval) (rows : List Row) (t : ℤ) → Covers i rows → has_instant i t ≡ true → (k : ℕ) × InForceAt rows t k

-- rows that are cut to an interval
pub record CutLaws (rows : List Row) (to : Interval) : Type 0 where
  pub covers : Covers to (cut rows to)
  pub same : (t : ℤ) → has_instant to t ≡ true → local (cut rows to) t ≡ local rows t
  pub short : length (cut rows to) ≤ length rows
  pub again : (inner : Interval) → within inner to ≡ true → cut (cut rows to) inner ≡ cut rows inner

-- a cut covers its interval, has the same local times there, has no more rows, and cut again it is the cut
abbrev pub CutsAgree : Type 0
CutsAgree = (of : Interval) (rows : List Row) (to : Interval) → Covers of rows → within to of ≡ true → CutLaws rows to
