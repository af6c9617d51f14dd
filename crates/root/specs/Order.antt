-- What a log in order keeps. Assumes nothing.
use Rattle.std.specs.Prelude.{◌≡◌, ℕ, ◌<◌, true, List, length, take}
use Rattle.zone.specs.Intervals.{era}
use Rattle.names.specs.Names.{is_name}
use Rattle.zone.specs.Rows.{Sound, table_rows}
use Rattle.root.specs.Logs.{Publication, at, tag_for}

-- every publication has a valid name and a table over the era, and the tag that it got when it was published
pub record InOrder (log : List Publication) : Type 0 where
  pub names : (k : ℕ) → k < length log → is_name (at log k).name.bytes ≡ true
  pub tables : (k : ℕ) → k < length log → Sound table_rows era (at log k).rows
  pub tags : (k : ℕ) → k < length log → (at log k).tag ≡ tag_for (take k log) (at log k).name (at log k).rows
