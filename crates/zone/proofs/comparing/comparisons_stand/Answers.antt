use Rattle.zone.proofs.Compared.{comparisons_stand}
use Rattle.zone.proofs.comparing.comparisons_stand.Goals as goal

pub returns : goal.returns
returns c = comparisons_stand
