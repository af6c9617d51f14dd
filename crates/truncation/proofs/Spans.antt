-- Which span a truncation takes. Assumes nothing.
use Rattle.std.proofs.Common.{◌≡◌, Bool, true, false, cond, [], refl, ap, ◌∙◌}
use Rattle.zone.specs.declared.rows.Interval.{Interval}
use Rattle.zone.specs.Intervals.{era, within}
use Rattle.zone.specs.Refusals.{answered, refused}
use Rattle.cutting.proofs.Clipping.{within_itself}
use Rattle.truncation.specs.Truncating.{span_kept, taken}

-- what holds of the span asked for, if it passes, and of the one below, holds of the span that is taken
taken_both : (P : Interval → Type 0) (a b : Bool) (span below : Interval) → (b ≡ true → P span) → P below → P (taken (cond a (cond b (answered tt) (refused 3 [])) (refused 2 [])) span below)
taken_both P true true span below f p = f refl
taken_both P true false span below f p = p
taken_both P false b span below f p = p

-- the span that is taken lies inside the span below, where that rises
pub kept_inside : (span below kept : Interval) → kept ≡ span_kept span below → within below era ≡ true → within kept below ≡ true
kept_inside span below kept e h =
    ap (λ i. within i below) e ∙ taken_both (λ (i : Interval). within i below ≡ true) (within span era) (within span below) span below (λ w. w) (within_itself below era h)
