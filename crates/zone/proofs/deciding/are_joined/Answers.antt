use Rattle.std.proofs.Common.{rules, tests}
use Rattle.std.proofs.lemmas.List.Sorted.{answers_always}
use Rattle.zone.specs.Tables.{follows}
use Rattle.zone.proofs.Testing.{joined_told}
use Rattle.zone.proofs.deciding.are_joined.Goals as goal

pub returns : goal.returns
returns c = joined_told c.args.rows.now c.is_sorted_by.result (c.is_sorted_by.ensures.cases follows (answers_always _ _ _ (λ f x b q k. search (rules, tests))))
