-- What a truncation means. Assumes nothing.
use Rattle.std.specs.Prelude.{◌≡◌, true, cond, [], Some, None, Option}
use Rattle.zone.specs.declared.rows.Interval.{Interval}
use Rattle.zone.specs.Intervals.{era, within}
use Rattle.zone.specs.Refusals.{Outcome, answered, refused}
use Rattle.cutting.specs.Cutting.{cut}
use Rattle.provider.specs.Meaning.{Page}
use Rattle.provider.specs.declared.providers.Provider.{Ghosts}

-- the checks of a span over a provider with the span `below`: 2 in the era, 3 inside
abbrev pub span_checked : Interval → Interval → Outcome (Unit {0})
span_checked span below = cond (within span era) (cond (within span below) (answered tt) (refused 3 [])) (refused 2 [])

-- by what the checks come to: the span asked for, or, where they refuse it, the one below
abbrev pub taken : Outcome (Unit {0}) → Interval → Interval → Interval
taken (answered done) span below = span
taken (refused n vs) span below = below

-- the span of a truncation made of the span, over a provider with the span `below`
abbrev pub span_kept : Interval → Interval → Interval
span_kept span below = taken (span_checked span below) span below

-- a page cut to the span, under its tag
abbrev pub cut_page : Interval → Option Page → Option Page
cut_page span None = None
cut_page span (Some p) = Some (record { tag = p.tag; rows = cut p.rows span })

-- what is below is in order, and the span lies inside its span
abbrev pub Over : {S : Type 0} → Ghosts S → S → Interval → Type 0
Over g below span = g.in_order below × (within span (g.span below) ≡ true)
