use Rattle.std.proofs.Common.{◌≡◌, vec_len}
use Rattle.client.proofs.sessions.Session.close.Given as goal

abbrev pub invariant-loop-held : goal.invariant-loop-held
invariant-loop-held g l = l.client.provider ≡ l.initial.client.provider

abbrev pub decreases-loop-held : goal.decreases-loop-held
decreases-loop-held g l = vec_len l.tokens
