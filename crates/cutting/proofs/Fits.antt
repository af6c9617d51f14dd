-- Which outcome a cut has. Assumes nothing.
use Rattle.std.proofs.Common.{◌≡◌, ℕ, true, leb, ltb, List, length, count_by, sym, ap, ◌∙◌}
use Rattle.std.proofs.lemmas.List.Sums.{length-filter}
use Rattle.zone.specs.declared.rows.Interval.{Interval}
use Rattle.zone.specs.declared.rows.Row.{Row}
use Rattle.zone.specs.Intervals.{within}
use Rattle.zone.specs.Refusals.{answered}
use Rattle.cutting.specs.Cutting.{begins_inside, cut}
use Rattle.cutting.specs.Outcomes.{cut_outcome}

module _ (of : Interval) (rows : List Row) (to : Interval) where
  pub cut_fits : within to of ≡ true → leb (length (cut rows to)) 64 ≡ true → cut_outcome of rows to ≡ answered (cut rows to)
  cut_fits w l = rw (w, l)

-- a window has room for the cut where fewer rows than it holds begin inside
pub room_for : (rows : List Row) (to : Interval) (n : ℕ) → n ≡ count_by (begins_inside to) rows → ltb n 64 ≡ leb (length (cut rows to)) 64
room_for rows to n e = ap (λ k. ltb k 64) (e ∙ sym (length-filter (begins_inside to) rows))
