use Rattle.slots.specs.Told.{abandon_token, token_report}
use Rattle.slots.proofs.Finding.{steps}
use Rattle.slots.proofs.slot.Slots.abandon.Goals as goal

pub returns : goal.returns
returns c = steps c.args.self.now c.args.i c.slot_mut.result.now c.abandon.new.self (λ s k. abandon_token s k c.args.interval) (λ k. token_report c.abandon.result k c.args.interval) c.if-i-ge-SLOTS.false c.slot_mut.ensures.value c.abandon.ensures
