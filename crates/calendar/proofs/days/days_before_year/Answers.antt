-- The closed form is the sum over the years.
use Rattle.std.proofs.Common.{arith}
use Rattle.calendar.proofs.Closed.{years_closed}
use Rattle.calendar.proofs.days.days_before_year.Goals as goal

pub returns : goal.returns
returns c = omega (arith, years_closed c.args.year c.requires)
