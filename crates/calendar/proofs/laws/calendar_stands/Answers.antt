-- The laws, from the lemmas.
use Rattle.calendar.proofs.Exists.{seconds_inside, seconds_exist}
use Rattle.calendar.proofs.Unique.{seconds_unique}
use Rattle.calendar.proofs.laws.calendar_stands.Goals as goal

pub returns : goal.returns
returns c = record { inside = seconds_inside; one_stamp = seconds_unique; every_second = seconds_exist }
