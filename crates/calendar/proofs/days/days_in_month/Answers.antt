-- February has 29 days in a leap year, else 28.
use Rattle.std.proofs.Common.{true, false}
use Rattle.calendar.proofs.Sum.{february}
use Rattle.calendar.proofs.days.days_in_month.Goals as goal

pub returns-then-is_leap : goal.returns-then-is_leap
returns-then-is_leap c = february c.args.year c.args.month true c.in-2.is c.if-is_leap.ensures

pub returns-else-is_leap : goal.returns-else-is_leap
returns-else-is_leap c = february c.args.year c.args.month false c.in-2.is c.if-is_leap.ensures
