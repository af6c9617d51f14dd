use Rattle.std.proofs.Common.{Err, Ok, sym, ap, ◌∙◌}
use Rattle.std.proofs.lemmas.Result.{err_from_is_err_and}
use Rattle.history.specs.Steps.{begun, settled}
use Rattle.slots.specs.Seeing.{state_of}
use Rattle.slots.specs.Turning.{mark_report, marked_at}
use Rattle.slots.proofs.Finding.{steps}
use Rattle.slots.proofs.slot.Slots.begin.Goals as goal

pub returns-in_err-mark-clause-told : goal.returns-in_err-mark-clause-told
returns-in_err-mark-clause-told c =
    let p = err_from_is_err_and c.from_residual.result c.from_residual.ensures.1 in
    let self = c.args.self.now in
    let s = state_of self in
    rw (p.1, p.2) (ap (λ o. settled s (begun s c.args.name c.args.interval o)) (sym c.find.ensures.place ∙ c.in-Some.is)
    ∙ steps self c.in-Some.i c.slot_mut.result.now c.mark.new.self (λ s k. marked_at s k c.args.interval) (λ k. mark_report (Err c.in_err-mark.field-0.0) k c.args.interval) c.in-Some.ensures.within c.slot_mut.ensures.value c.in_err-mark.ensures)

pub returns-clause-told : goal.returns-clause-told
returns-clause-told c =
    let self = c.args.self.now in
    let s = state_of self in
    ap (λ o. settled s (begun s c.args.name c.args.interval o)) (sym c.find.ensures.place ∙ c.in-Some.is)
    ∙ steps self c.in-Some.i c.slot_mut.result.now c.mark.new.self (λ s k. marked_at s k c.args.interval) (λ k. mark_report (Ok c.in_ok-mark.field-0) k c.args.interval) c.in-Some.ensures.within c.slot_mut.ensures.value c.in_ok-mark.ensures
