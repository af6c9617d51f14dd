-- The texts of a row's values. Assumes nothing.
use Rattle.std.specs.Prelude.{◌≡◌, take}
use Rattle.fields.specs.Offsets.{offset, printed}
use Rattle.zone.specs.declared.rows.Row.{Row}
use Rattle.zonetext.specs.Writing.{start_text}
use Rattle.zonewriter.specs.declared.printing.RowTexts.{RowTexts}

-- these are the texts of the row's onset and offsets
pub record AreTextsOf (row : Row) (t : RowTexts) : Type 0 where
  pub start : t.start ≡ start_text row
  pub before : take t.from.len t.from.bytes ≡ printed (offset row.from)
  pub after : take t.to.len t.to.bytes ≡ printed (offset row.to)
