use Rattle.std.proofs.Common.{◌≡◌, ℕ, List, refl, ap, ◌∙◌}
use Rattle.provider.specs.Whole.{meaning}
use Rattle.history.specs.Cells.{Cell, State, new_client}
use Rattle.slots.specs.Seeing.{state_of}
use Rattle.client.proofs.Starting.{agrees_new}
use Rattle.client.proofs.clients.Client.new.Goals as goal

pub returns : goal.returns
returns g c =
    let slots = c.in_ok-slots.slots in
    let made = c.in_ok-slots.ensures in
    let state : List Cell → ℕ → State = λ cells floor. record { cells = cells; floor = floor } in
    let new : state_of slots ≡ new_client = ap (λ cells. state cells slots.floor) made.0 ∙ ap (state _) made.1 in
    (refl, new, λ o. record { order = o; agrees = agrees_new (meaning g.P.Provider c.args.provider) (state_of slots) new })
