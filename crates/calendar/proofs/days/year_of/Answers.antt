-- The first guess is the year or the one before.
use Rattle.std.proofs.Common.{◌+◌, ◌/◌, arith}
use Rattle.calendar.specs.Calendar.{year_days}
use Rattle.calendar.proofs.Sum.{between_more}
use Rattle.calendar.proofs.Closed.{year_guess, year_guess_next}
use Rattle.calendar.proofs.days.year_of.Goals as goal

pub returns-then-days-next-clause-rest : goal.returns-then-days-next-clause-rest
returns-then-days-next-clause-rest c =
    let d = c.args.days in
    omega (arith, year_guess d, between_more year_days 1899 (1899 + d / 366) (omega arith))

pub returns-else-days-next-clause-rest : goal.returns-else-days-next-clause-rest
returns-else-days-next-clause-rest c =
    let d = c.args.days in
    omega (arith, year_guess_next d c.requires, between_more year_days 1899 (1899 + d / 366 + 1) (omega arith))
