use Rattle.std.proofs.Common.{sym, ap, ◌∙◌}
use Rattle.history.specs.Cells.{with_cell}
use Rattle.history.specs.Steps.{began, reserved, settled}
use Rattle.slots.specs.Seeing.{state_of}
use Rattle.slots.proofs.Finding.{turned}
use Rattle.slots.proofs.slot.Slots.begin_new.Goals as goal

pub returns-clause-told : goal.returns-clause-told
returns-clause-told c =
    let self = c.args.self.now in
    let s = state_of self in
    ap (λ o. settled s (reserved s c.args.name c.args.interval o)) (sym c.find_free.ensures.place ∙ c.in_ok-i.ensures.ok_part)
    ∙ sym (ap (λ x. record { report = began c.in_ok-i.i c.args.interval; state = x }) (turned self c.in_ok-i.i c.reserve.new.self ∙ ap (with_cell s c.in_ok-i.i) c.reserve.ensures))
