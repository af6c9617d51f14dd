use Rattle.std.proofs.Common.{◌≡◌, take}
use Rattle.std.specs.List.{flat_map}
use Rattle.zonetext.specs.Writing.{row_text}
use Rattle.zonewriter.specs.Puts.{Puts}
use Rattle.zonewriter.proofs.putting.Writer.rows.Given as goal

-- the rows so far are put
abbrev pub invariant-loop-row : goal.invariant-loop-row
invariant-loop-row l = (l.self.buffer.ghost_name ≡ l.initial.self.buffer.ghost_name) × Puts l.initial.self (flat_map row_text (take l.row-index l.rows)) l.self
