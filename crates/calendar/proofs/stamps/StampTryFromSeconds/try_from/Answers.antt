-- The day of the month fits its type.
use Rattle.std.proofs.Common.{rules}
use Rattle.calendar.proofs.Unique.{month_days_le}
use Rattle.calendar.proofs.stamps.StampTryFromSeconds.try_from.Goals as goal

pub overflow_cast-result : goal.overflow_cast-result
overflow_cast-result c =
    let m = month_days_le c.year_of-year.result.0 c.month_of-month.result.0 c.month_of-month.ensures.range.1 in
    search rules
