-- What the test of tables comes to, in the words of the subject. Assumes nothing.
use Rattle.std.specs.Prelude.{◌≡◌, List, Decides}
use Rattle.zone.specs.declared.rows.Interval.{Interval}
use Rattle.zone.specs.declared.rows.Row.{Row}
use Rattle.zone.specs.Intervals.{era}
use Rattle.zone.specs.Rows.{Sound, table_rows}
use Rattle.zone.specs.Tables.{is_table, is_era_table}

-- the test of a table tells what a table must keep
pub record TablesStand : Type 0 where
  pub tables : (i : Interval) (rows : List Row) → Decides (is_table i rows) (Sound table_rows i rows)
  pub over_era : (i : Interval) (rows : List Row) → Decides (is_era_table i rows) ((i ≡ era) × Sound table_rows era rows)
