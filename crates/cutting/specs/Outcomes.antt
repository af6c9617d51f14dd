-- What the calls of this crate come to, refusals by their numbers. Assumes nothing.
use Rattle.std.specs.Prelude.{◌≡◌, ℕ, cond, List, [], length, ℤ, Ok, Err, vec_items, Result, nat_le}
use Rattle.zone.specs.declared.rows.Interval.{Interval}
use Rattle.zone.specs.declared.rows.Row.{Row}
use Rattle.zone.specs.declared.windows.Window.{Window}
use Rattle.zone.specs.Intervals.{within, has_instant}
use Rattle.zone.specs.Refusals.{Outcome, answered, refused}
use Rattle.zone.specs.Rows.{Sound, table_rows, window_rows}
use Rattle.cutting.specs.declared.locals.Local.{Local}
use Rattle.cutting.specs.declared.locals.CutRefusal.{CutRefusal}
use Rattle.cutting.specs.declared.locals.CutRefusal.TheVariants.{OutsideSpan, TooManyRows, NotATable}
use Rattle.cutting.specs.Cutting.{cut, local}

-- what a window answers at t: 12 outside of it
abbrev pub local_outcome : Interval → List Row → ℤ → Outcome Local
local_outcome i rows t = cond (has_instant i t) (answered (local rows t)) (refused 12 [])

-- what the cut of rows over `of` to `to` comes to: 3 where that is not inside, 6 above the rows of a window
abbrev pub cut_outcome : Interval → List Row → Interval → Outcome (List Row)
cut_outcome of rows to = cond (within to of) (cond (nat_le (length (cut rows to)) window_rows) (answered (cut rows to)) (refused 6 [])) (refused 3 [])

-- the number of a cut's refusal; it has no values
abbrev pub cut_number : CutRefusal → ℕ
cut_number OutsideSpan = 3
cut_number TooManyRows = 6
cut_number NotATable = 13

-- what a call returned and left in the lent window, as an outcome
abbrev pub cut_result : Result (Unit {0}) CutRefusal → Window → Outcome (List Row)
cut_result (Ok done) place = answered (vec_items place.rows)
cut_result (Err e) place = refused (cut_number e) []

-- what a call leaves in the lent window besides: the interval, or, refused, all as it was
abbrev pub Leaves : Result (Unit {0}) CutRefusal → Interval → Window → Window → Type 0
Leaves (Ok done) to before after = after.interval ≡ to
Leaves (Err e) to before after = (after.interval ≡ before.interval) × (after.rows ≡ before.rows)

-- the cut of a table, and 13 where the rows are no table's
pub record CutTold (of : Interval) (rows : List Row) (to : Interval) (r : Result (Unit {0}) CutRefusal) (before after : Window) : Type 0 where
  pub table : Sound table_rows of rows → cut_result r after ≡ cut_outcome of rows to
  pub none : (Sound table_rows of rows → ⊥) → cut_result r after ≡ refused 13 []
  pub leaves : Leaves r to before after
