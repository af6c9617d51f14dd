use Rattle.std.proofs.Common.{rules, tests}
use Rattle.std.proofs.lemmas.Iterator.{YieldsList-from_slice}
use Rattle.std.proofs.lemmas.Iterator.Search.{all_from_yields_List}
use Rattle.zone.specs.Tables.{small_row}
use Rattle.zone.proofs.Testing.{small_told, all_small_told}
use Rattle.zone.proofs.deciding.are_small.Goals as goal

pub returns : goal.returns
returns c =
    let rows = c.args.rows.now in
    all_small_told rows c.all.result (all_from_yields_List small_row _ _ c.all.result c.all.ensures.ran (YieldsList-from_slice rows cc) (λ x b q k. search (rules, tests, small_told)))
