use Rattle.std.proofs.Common.{rules, tests}
use Rattle.kept.proofs.Finding.{free_made}
use Rattle.kept.proofs.places.Places.new.Goals as goal

pub returns : goal.returns
returns c =
    let made = c.in_ok-try_from_fn.ensures.ok in
    free_made c.in_ok-try_from_fn.field-0 8 made.long (λ i l d. let called = made.at i d l in search (rules, tests))
