use Rattle.zonetext.proofs.Back.{texts_stand}
use Rattle.zonetext.proofs.laws.texts_stand.Goals as goal

pub returns : goal.returns
returns c = texts_stand
