use Rattle.std.proofs.Common.{refl}
use Rattle.provider.specs.Whole.{meaning}
use Rattle.slots.specs.Seeing.{state_of}
use Rattle.client.specs.Following.{state_in}
use Rattle.client.proofs.Ordered.{ordered, abandon_agrees}
use Rattle.client.proofs.clients.Client.abandon.Goals as goal

pub returns-clause-order : goal.returns-clause-order
returns-clause-order g c =
    let self = c.args.self.now in
    let s = state_in self in
    ordered g.P.Provider self.provider self.provider s (state_of c.abandon-abandoned.new.self) _ _ (abandon_agrees (meaning g.P.Provider self.provider) s c.args.pending.slot c.args.pending.interval) c.abandon-abandoned.ensures refl
