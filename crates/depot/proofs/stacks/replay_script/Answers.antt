use Rattle.depot.proofs.stacks.replay_script.Goals as goal

pub returns : goal.returns
returns c =
    let stacked = c.in_ok-provider.ensures in
    let replayed = c.in_ok-outcomes.ensures.replayed stacked.order in
    let slice = c.as_slice.ensures.value in
    record { first = c.in_ok-provider.provider; last = _; stacked = stacked; replayed = rw slice at replayed }
