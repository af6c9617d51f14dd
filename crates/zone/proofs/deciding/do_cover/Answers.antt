use Rattle.std.proofs.Common.{rules}
use Rattle.zone.proofs.deciding.do_cover.Goals as goal

pub returns-then-are_joined : goal.returns-then-are_joined
returns-then-are_joined c = (λ h. record { begins = search rules; joined = search rules; ends = search rules; small = c.are_small.ensures.0 h }, λ s. c.are_small.ensures.1 s.small)
