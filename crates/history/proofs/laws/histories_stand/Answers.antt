use Rattle.history.proofs.Promising.{histories_stand}
use Rattle.history.proofs.laws.histories_stand.Goals as goal

pub returns : goal.returns
returns g c = histories_stand _ _
