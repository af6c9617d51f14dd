use Rattle.std.proofs.Common.{Err, Ok}
use Rattle.std.proofs.lemmas.Result.{err_from_is_err_and}
use Rattle.slots.specs.Taking.{received}
use Rattle.slots.proofs.Finding.{accepts}
use Rattle.slots.proofs.slot.Slots.receive.Goals as goal

pub returns-in_err-edition : goal.returns-in_err-edition
returns-in_err-edition c =
    let p = err_from_is_err_and c.from_residual.result c.from_residual.ensures.1 in
    rw (p.1, p.2) (accepts c.args.self.now c.args.i c.slot_mut.result.now c.receive.new.self (λ s k. received s k c.args.interval c.args.reply c.args.spare.now) (Err c.in_err-edition.field-0.0) c.args.interval c.if-i-ge-SLOTS.false c.slot_mut.ensures.value c.in_err-edition.ensures)

pub returns : goal.returns
returns c = accepts c.args.self.now c.args.i c.slot_mut.result.now c.receive.new.self (λ s k. received s k c.args.interval c.args.reply c.args.spare.now) (Ok c.in_ok-edition.edition) c.args.interval c.if-i-ge-SLOTS.false c.slot_mut.ensures.value c.in_ok-edition.ensures
