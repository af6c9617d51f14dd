use Rattle.std.proofs.Common.{rules}
use Rattle.zonetext.proofs.Cuts.{line_is}
use Rattle.zonetext.proofs.parting.line_end.Goals as goal

pub returns : goal.returns
returns c = line_is c.args.text.now c.position.result (search rules)
