use Rattle.std.proofs.Common.{◌∙◌, rules, tests}
use Rattle.std.proofs.lemmas.Iterator.{YieldsList-from_slice}
use Rattle.std.proofs.lemmas.Iterator.Search.{position_from_yields_List}
use Rattle.history.specs.Cells.{is_free}
use Rattle.slots.specs.Seeing.{cell_of}
use Rattle.slots.proofs.Finding.{position_map}
use Rattle.slots.proofs.slot.Slots.find_free.Goals as goal

pub returns-clause-place : goal.returns-clause-place
returns-clause-place c =
    position_from_yields_List (λ slot. is_free (cell_of slot)) _ _ c.position.result c.position.ensures.ran (YieldsList-from_slice _ (c.iter.ensures.rest ∙ c.deref.ensures.value)) (λ x b q k. search (rules, tests))
    ∙ position_map is_free c.args.self.now
