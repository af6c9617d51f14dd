use Rattle.cutting.proofs.Seen.{some_in_force}
use Rattle.cutting.proofs.laws.rows_are_in_force.Goals as goal

pub returns : goal.returns
returns c = some_in_force
