-- The answer that a page gives, from the cut that was made of it. Assumes nothing.
use Rattle.std.proofs.Common.{◌≡◌, ℕ, ◌≤◌, true, leb, List, length, Ok, Err, vec_items, Result, arith}
use Rattle.std.proofs.lemmas.Bool.{le-leb}
use Rattle.zone.specs.declared.rows.Interval.{Interval}
use Rattle.zone.specs.declared.rows.Row.{Row}
use Rattle.zone.specs.declared.windows.Window.{Window}
use Rattle.zone.specs.Intervals.{within}
use Rattle.zone.specs.Refusals.{answered}
use Rattle.zone.specs.Rows.{Covers, window_rows}
use Rattle.cutting.specs.declared.locals.CutRefusal.{CutRefusal}
use Rattle.cutting.specs.Cutting.{cut}
use Rattle.cutting.specs.Outcomes.{cut_result, Leaves as CutLeaves}
use Rattle.cutting.proofs.Clipping.{cuts_agree}

-- a cut that was answered is in the lent window
pub cut_done : (r : Result (Unit {0}) CutRefusal) (rows : List Row) (to : Interval) (before after : Window) → cut_result r after ≡ answered (cut rows to) → CutLeaves r to before after → (vec_items after.rows ≡ cut rows to) × (after.interval ≡ to)
cut_done (Ok done) rows to before after h l = (cc, l)
cut_done (Err e) rows to before after h l = let z : ◌≡◌ {A = ℕ} 0 1 = cc in absurd (omega arith)

-- the cut of a window is no larger than a window
pub cut_of_window : (of : Interval) (rows : List Row) (to : Interval) → Covers of rows → length rows ≤ window_rows → within to of ≡ true → leb (length (cut rows to)) window_rows ≡ true
cut_of_window of rows to c n w = le-leb (length (cut rows to)) window_rows (omega (arith, (cuts_agree of rows to c w).short))

-- so is the cut of what a window holds
pub window_cut : (w : Window) (to : Interval) → within to w.interval ≡ true → leb (length (cut (vec_items w.rows) to)) window_rows ≡ true
window_cut w to i = cut_of_window w.interval (vec_items w.rows) to (record { begins = w.begins; joined = w.joined; ends = w.ends; small = w.small }) w.few i
