use Rattle.std.proofs.Common.{rules, tests, ◌∙◌, sym}
use Rattle.std.proofs.lemmas.Iterator.{YieldsList-from_slice}
use Rattle.std.proofs.lemmas.Iterator.Search.{position_from_yields_List}
use Rattle.kept.specs.Keeping.{is_of, kept_in}
use Rattle.kept.proofs.Finding.{position_of_map}
use Rattle.kept.proofs.places.Places.find.Goals as goal

pub returns-clause-place : goal.returns-clause-place
returns-clause-place c =
    let of_name = is_of c.args.name.now in
    position_from_yields_List (λ place. of_name (kept_in place)) _ _ c.position.result c.position.ensures.ran (YieldsList-from_slice _ c.iter.ensures.rest) (λ x b q k. search (rules, tests))
    ∙ sym (position_of_map of_name kept_in c.args.self.now.places)
