use Rattle.std.proofs.Common.{◌≡◌, ◌≤◌, replicate, None, vec_items, vec_len, vec_capacity}
use Rattle.client.proofs.sessions.Session.new.Given as goal

abbrev pub invariant-loop-i : goal.invariant-loop-i
invariant-loop-i g l = (vec_len l.tokens ≡ l._i) × (16 ≤ vec_capacity l.tokens) × (vec_items l.tokens ≡ replicate l._i None)
