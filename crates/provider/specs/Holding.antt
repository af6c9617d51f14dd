-- What somebody holds of a page. Assumes nothing.
use Rattle.std.specs.Prelude.{◌≡◌, ℕ, true, List, Some}
use Rattle.names.specs.declared.name.Name.{Name}
use Rattle.zone.specs.declared.rows.Interval.{Interval}
use Rattle.zone.specs.declared.rows.Row.{Row}
use Rattle.zone.specs.Intervals.{within}
use Rattle.cutting.specs.Cutting.{cut}
use Rattle.provider.specs.Meaning.{Page, Meaning}

-- rows over an interval inside the span are the cut of the record's page of the zone and edition, which has the tag
pub record FromPage (m : Meaning) (n : Name) (edition tag : ℕ) (i : Interval) (rows : List Row) : Type 0 where
  pub page : Page
  pub paged : m.pages edition n ≡ Some page
  pub tagged : page.tag ≡ tag
  pub is_cut : rows ≡ cut page.rows i
  pub inside : within i m.span ≡ true
