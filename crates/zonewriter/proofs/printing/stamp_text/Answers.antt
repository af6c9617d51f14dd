-- The stamp was found, and its text.
use Rattle.std.proofs.Common.{subst}
use Rattle.calendar.specs.Calendar.{StampFound}
use Rattle.fields.specs.Stamps.{StampPrinted}
use Rattle.zonewriter.proofs.Rowing.{stamp_found}
use Rattle.zonewriter.proofs.printing.stamp_text.Goals as goal

pub returns : goal.returns
returns c =
    stamp_found c.args.at c.unwrap.result c.unwrap-2.result
    (subst (λ r. StampFound c.args.at r) c.unwrap.ensures c.try_from.ensures)
    (subst (λ o. StampPrinted c.unwrap.result o) c.unwrap-2.ensures c.print_stamp.ensures)
