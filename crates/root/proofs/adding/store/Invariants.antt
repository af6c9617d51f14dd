use Rattle.std.proofs.Common.{◌≡◌, ◌+◌, ◌++◌, take, vec_items, vec_len, vec_capacity}
use Rattle.root.proofs.adding.store.Given as goal

abbrev pub invariant-loop-row : goal.invariant-loop-row
invariant-loop-row l = (vec_items l.storage ≡ vec_items l.initial.storage ++ take l.row-index l.rows) × (vec_capacity l.storage ≡ vec_capacity l.initial.storage) × (vec_len l.storage ≡ vec_len l.initial.storage + l.row-index)
