use Rattle.names.proofs.Ordered.{names_ordered}
use Rattle.names.proofs.laws.names_ordered.Goals as goal

pub returns : goal.returns
returns c = names_ordered
