use Rattle.snapshot.proofs.Standing.{snapshots_stand}
use Rattle.snapshot.proofs.laws.snapshots_stand.Goals as goal

pub returns : goal.returns
returns c = snapshots_stand
