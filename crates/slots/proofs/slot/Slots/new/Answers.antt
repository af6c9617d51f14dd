use Rattle.std.proofs.Common.{map, refl, ap, ◌∙◌, rules, tests}
use Rattle.slots.specs.Seeing.{cell_of}
use Rattle.slots.proofs.Finding.{all_free}
use Rattle.slots.proofs.slot.Slots.new.Goals as goal

pub returns : goal.returns
returns c =
    let made = c.in_ok-slots.ensures.ok in
    (ap (map cell_of) c.in_ok-from_array.ensures.items ∙ all_free c.in_ok-slots.slots 16 made.long (λ i l d. let called = made.at i d l in search (rules, tests)), refl)
