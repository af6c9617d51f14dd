use Rattle.std.proofs.Common.{rules, tests}
use Rattle.std.proofs.lemmas.List.Sorted.{answers_always}
use Rattle.names.specs.Comparing.{before}
use Rattle.snapshot.proofs.Rising.{rises}
use Rattle.snapshot.proofs.deciding.do_rise.Goals as goal

pub returns : goal.returns
returns c = rises c.args.zones.now c.is_sorted_by.result (c.is_sorted_by.ensures.cases (λ a b. before a.name.bytes b.name.bytes) (answers_always _ _ _ (λ f x b q k. search (rules, tests))))
