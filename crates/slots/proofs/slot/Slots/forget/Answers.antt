use Rattle.std.proofs.Common.{[], Some, if◌then◌else◌, sym, ap, ◌∙◌, rules}
use Rattle.zone.specs.Refusals.{refused}
use Rattle.history.specs.Cells.{place_of}
use Rattle.history.specs.Steps.{forget_place, settled}
use Rattle.slots.specs.Seeing.{state_of}
use Rattle.slots.specs.Told.{forget_report}
use Rattle.slots.proofs.Finding.{steps}
use Rattle.slots.proofs.slot.Slots.forget.Goals as goal

pub returns : goal.returns
returns c =
    let self = c.args.self.now in
    let s = state_of self in
    ap (λ b. settled s (if b then forget_place s (place_of s c.args.name) else refused 1 [])) (sym c.if-not-is_valid.ensures)
    ∙ ap (λ o. settled s (forget_place s o)) (sym c.find.ensures.place ∙ c.in_ok-i.ensures.ok_part)
    ∙ steps self c.in_ok-i.i c.slot_mut.result.now c.forget.new.self (λ s k. settled s (forget_place s (Some k))) (λ k. forget_report c.forget.result) (search rules) c.slot_mut.ensures.value c.forget.ensures
