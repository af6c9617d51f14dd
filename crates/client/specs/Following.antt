-- A client over a provider: in order, and what a collect asks. Assumes nothing.
use Rattle.std.specs.Prelude.{◌≡◌, ℕ, MatchOption}
use Rattle.zone.specs.declared.rows.Interval.{Interval}
use Rattle.provider.specs.declared.providers.Provider.{Ghosts}
use Rattle.provider.specs.Meaning.{Keeps}
use Rattle.provider.specs.Whole.{meaning}
use Rattle.history.specs.Cells.{State, cell_at}
use Rattle.history.specs.Steps.{Report}
use Rattle.client.specs.declared.clients.Client.{Client}
use Rattle.client.specs.Agreeing.{Agrees}
use Rattle.slots.specs.Seeing.{state_of}
use Rattle.slots.specs.Told.{ComesTo, request_for}
use Rattle.client.specs.Told.{collect_token}

-- the client as its rules see it
abbrev pub state_in : {S : Type 0} → Client S → State
state_in c = state_of c.slots

module _ {S : Type 0} (g : Ghosts S) where
  -- the provider is in order, and what the client holds agrees with it
  pub record ClientInOrder (provider : S) (s : State) : Type 0 where
    pub order : g.in_order provider
    pub agrees : Agrees (meaning g provider) s

  -- what a collect of the slot's pending fetch asks the provider: nothing where the slot is not pending with the interval
  abbrev pub Asked : State → ℕ → Interval → S → S → Type 0
  Asked s k i before after = MatchOption (request_for (cell_at s k) i) (after ≡ before) (λ q. g.after_fetch before q after)

  -- what a collect of the slot's pending fetch comes to, over a provider in order that the client agrees with
  pub record Collected (s : State) (k : ℕ) (i : Interval) (before after : S) (r : Report) (s' : State) : Type 0 where
    pub told : ComesTo (collect_token (meaning g before) s k i) r s'
    pub keeps : Keeps (meaning g before) (meaning g after)
    pub order : ClientInOrder after s'

  -- the same of the client itself
  abbrev pub InOrder : Client S → Type 0
  InOrder c = ClientInOrder c.provider (state_in c)

  abbrev pub Fetches : ℕ → Interval → Client S → Client S → Type 0
  Fetches k i before after = Asked (state_in before) k i before.provider after.provider

  abbrev pub Collects : ℕ → Interval → Client S → Client S → Report → Type 0
  Collects k i before after r = InOrder before → Collected (state_in before) k i before.provider after.provider r (state_in after)
