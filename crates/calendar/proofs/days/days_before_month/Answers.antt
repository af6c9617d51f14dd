-- With no leap day before the month, the table of a common year.
use Rattle.std.proofs.Common.{sym, inl, inr, arith}
use Rattle.calendar.proofs.Closed.{month_without}
use Rattle.calendar.proofs.days.days_before_month.Goals as goal
use Rattle.calendar.proofs.days.days_before_month.Goals.{else-month-gt2-via-then-month-gt2+else-is_leap, else-month-gt2-via-else-month-gt2}

pub returns-else-month-gt2 : goal.returns-else-month-gt2
returns-else-month-gt2 c =
    let without = month_without c.args.year c.args.month c.requires.1 c.requires.0 in
    elim c.else-month-gt2.branch [
      | else-month-gt2-via-then-month-gt2+else-is_leap w ↦ without (inr (sym w.if-is_leap.ensures))
      | else-month-gt2-via-else-month-gt2 w ↦ without (inl (omega (arith, w.if-month-gt2.false)))
    ]
