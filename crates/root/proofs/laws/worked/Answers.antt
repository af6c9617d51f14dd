use Rattle.root.proofs.Example.{four_stand}
use Rattle.root.proofs.laws.worked.Goals as goal

pub returns : goal.returns
returns c = four_stand
