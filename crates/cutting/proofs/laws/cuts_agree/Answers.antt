use Rattle.cutting.proofs.Clipping.{cuts_agree}
use Rattle.cutting.proofs.laws.cuts_agree.Goals as goal

pub returns : goal.returns
returns c = cuts_agree
