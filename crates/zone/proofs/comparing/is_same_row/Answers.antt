use Rattle.std.proofs.Common.{rules}
use Rattle.zone.proofs.Compared.{derived_row}
use Rattle.zone.proofs.comparing.is_same_row.Goals as goal

pub returns : goal.returns
returns c = search (rules, derived_row)
