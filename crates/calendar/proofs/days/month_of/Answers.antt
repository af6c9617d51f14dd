-- The first guess is the month or the one before.
use Rattle.std.proofs.Common.{ℕ, ◌+◌, ◌/◌, ◌<◌, arith}
use Rattle.calendar.specs.Calendar.{month_days}
use Rattle.calendar.proofs.Sum.{between_more, between_order, months_year, year_days_le}
use Rattle.calendar.proofs.Closed.{month_guess, month_guess_next}
use Rattle.calendar.proofs.days.month_of.Goals as goal

pub returns-then-days-next-clause-rest : goal.returns-then-days-next-clause-rest
returns-then-days-next-clause-rest c =
    let y = c.args.year in
    let d = c.args.days in
    omega (arith, month_guess y d (omega (arith, year_days_le y)), between_more (month_days y) 1 (1 + d / 31) (omega arith))

pub returns-else-days-next-clause-rest : goal.returns-else-days-next-clause-rest
returns-else-days-next-clause-rest c =
    let y = c.args.year in
    let d = c.args.days in
    let m : ℕ = 1 + d / 31 + 1 in
    let last : m < 13 = between_order (month_days y) 1 m 13 (omega arith) (omega (arith, months_year y)) in
    omega (arith, month_guess_next y d last, between_more (month_days y) 1 m (omega arith))
