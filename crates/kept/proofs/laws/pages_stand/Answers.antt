use Rattle.kept.proofs.Standing.{pages_stand}
use Rattle.kept.proofs.laws.pages_stand.Goals as goal

pub returns : goal.returns
returns c = pages_stand
