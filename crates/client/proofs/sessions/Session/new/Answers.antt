use Rattle.std.proofs.Common.{None, Option, arith}
use Rattle.std.proofs.lemmas.List.{replicate_more}
use Rattle.client.specs.declared.pending.PendingFetch.{PendingFetch}
use Rattle.client.proofs.sessions.Session.new.Goals as goal

pub loop-i-preserved : goal.loop-i-preserved
loop-i-preserved g c =
    let e = replicate_more {X = Option PendingFetch} c.loop-i._i None in
    let p = c.push_reserved.ensures.items in
    let v = c.loop-i.invariant.2 in
    (omega arith, omega arith, cc)
