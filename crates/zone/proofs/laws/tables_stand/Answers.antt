use Rattle.zone.proofs.Testing.{tables_stand}
use Rattle.zone.proofs.laws.tables_stand.Goals as goal

pub returns : goal.returns
returns c = tables_stand
