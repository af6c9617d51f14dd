-- The digits are read first, and then the stamp is tested.
use Rattle.std.proofs.Common.{rules}
use Rattle.fields.proofs.Dates.{filtered}
use Rattle.fields.proofs.stamps.parse_stamp.Goals as goal

pub returns : goal.returns
returns c = filtered _ _ _ _ (λ d b k. search rules) c.stamp_digits.ensures c.filter.ensures
