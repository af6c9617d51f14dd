-- Histories: what a list of calls on a new client came to, over the states that the provider really had. Assumes nothing.
use Rattle.std.specs.Prelude.{◌≡◌, ℕ, Bool, ◌⊎◌, List, [], ◌∷◌, ◌++◌, Some, None, Option}
use Rattle.names.specs.declared.name.Name.{Name}
use Rattle.zone.specs.declared.rows.Interval.{Interval}
use Rattle.zone.specs.declared.windows.Table.{Table}
use Rattle.provider.specs.declared.requests.Request.{Request}
use Rattle.provider.specs.Meaning.{Meaning, Keeps, Sound}
use Rattle.history.specs.Cells.{Copy, State, new_client, place_of, cell_at}
use Rattle.history.specs.Steps.{Call, begin, collect, abandon, forget, query, publish, Report, known_tag, step}

-- what a provider says of its states; one that takes no publications fits none and never moves by one
pub record Source (S : Type 0) : Type 1 where
  pub meaning : S → Meaning
  pub in_order : S → Type 0
  pub after_fetch : S → Request → S → Type 0
  pub fits : S → ℕ → Bool
  pub after_publish : S → Name → Table → S → Type 0

-- one call: the provider's state before it, what it came to, the provider's state after it
pub record Moment (S : Type 0) : Type 0 where
  pub before : S
  pub call : Call
  pub report : Report
  pub after : S

-- the newest moment first, so that what follows a moment is its past
abbrev pub History : Type 0 → Type 0
History S = List (Moment S)

module _ {S : Type 0} where
  -- the calls and what they came to, the oldest first
  abbrev pub calls_of : History S → List Call
  calls_of [] = []
  calls_of (x ∷ past) = calls_of past ++ (x.call ∷ [])

  abbrev pub reports_of : History S → List Report
  reports_of [] = []
  reports_of (x ∷ past) = reports_of past ++ (x.report ∷ [])

  -- the provider's state after the history
  abbrev pub end_of : S → History S → S
  end_of first [] = first
  end_of first (x ∷ past) = x.after

  -- each moment with its past
  abbrev pub Each : (Moment S → History S → Type 0) → History S → Type 0
  Each P [] = Unit {0}
  Each P (x ∷ past) = P x past × Each P past

  -- some moment
  abbrev pub SomeMoment : (Moment S → Type 0) → History S → Type 0
  SomeMoment P [] = ⊥
  SomeMoment P (x ∷ past) = P x ⊎ SomeMoment P past

  -- what a collect asks the provider: nothing where no fetch is pending
  abbrev pub Asks : Source S → Name → Option Copy → Option Interval → S → S → Type 0
  Asks src n copy None before after = after ≡ before
  Asks src n copy (Some i) before after = src.after_fetch before (record { name = n; interval = i; known = known_tag copy i }) after

  abbrev pub Collects : Source S → State → Name → Option ℕ → S → S → Type 0
  Collects src s n None before after = after ≡ before
  Collects src s n (Some k) before after = Asks src n (cell_at s k).copy (cell_at s k).pending before after

  -- how a call moves the provider: a collect by a fetch, a publish by a publication, no other call at all
  abbrev pub Moves : Source S → State → Call → S → S → Type 0
  Moves src s (begin n i) before after = after ≡ before
  Moves src s (collect n) before after = Collects src s n (place_of s n) before after
  Moves src s (abandon n) before after = after ≡ before
  Moves src s (forget n) before after = after ≡ before
  Moves src s (query n t) before after = after ≡ before
  Moves src s (publish n t) before after = src.after_publish before n t after

  module _ (src : Source S) where
    -- the client after a history, by the rules
    abbrev pub client_after : History S → State
    client_after [] = new_client
    client_after (x ∷ past) = (step (src.meaning x.before) (src.fits x.before) (client_after past) x.call).state

    -- every outcome is the one that the rules define, from the calls up to it and what the provider meant before each
    abbrev pub OutcomesAsDefined : History S → Type 0
    OutcomesAsDefined = Each (λ x past. x.report ≡ (step (src.meaning x.before) (src.fits x.before) (client_after past) x.call).report)

  -- one moment after its past, from the provider's first state: it begins where the past ended, in order, moves the provider as
  -- its call does, and keeps the record
  pub record Link (src : Source S) (first : S) (x : Moment S) (past : History S) : Type 0 where
    pub begins : x.before ≡ end_of first past
    pub order : src.in_order x.before
    pub sound : Sound (src.meaning x.before)
    pub moves : Moves src (client_after src past) x.call x.before x.after
    pub keeps : Keeps (src.meaning x.before) (src.meaning x.after)

  abbrev pub Linked : Source S → S → History S → Type 0
  Linked src first = Each (Link src first)
