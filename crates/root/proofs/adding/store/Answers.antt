use Rattle.std.proofs.Common.{◌++◌, vec_items, refl, ap, ◌∙◌, arith}
use Rattle.std.proofs.lemmas.List.{append_assoc, take_all, take_more}
use Rattle.zone.specs.Rows.{no_row}
use Rattle.root.proofs.adding.store.Goals as goal

pub push_reserved-requires : goal.push_reserved-requires
push_reserved-requires c = omega (arith, c.loop-row.invariant.1, c.loop-row.invariant.2)

pub loop-row-preserved : goal.loop-row-preserved
loop-row-preserved c =
    let e = take_more c.args.rows.now c.loop-row.row-index no_row (omega arith) in
    simp (c.push_reserved.ensures.items, c.loop-row.invariant.0, e, append_assoc) (refl, c.push_reserved.ensures.capacity ∙ c.loop-row.invariant.1, omega (arith, c.push_reserved.ensures.len, c.loop-row.invariant.2))

pub returns : goal.returns
returns c = record { items = c.loop-row.invariant.0 ∙ ap (λ xs. vec_items c.args.storage.now ++ xs) (take_all c.loop-row.row-index c.args.rows.now (omega arith)); capacity = c.loop-row.invariant.1 }
