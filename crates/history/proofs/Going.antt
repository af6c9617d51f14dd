-- A history that grows call by call. Assumes nothing.
use Rattle.std.proofs.Common.{◌≡◌, List, [], ◌∷◌, ◌++◌, sym, refl, ap, ◌∙◌, subst}
use Rattle.provider.specs.Meaning.{Keeps, Sound}
use Rattle.history.specs.Cells.{State, new_client}
use Rattle.history.specs.Histories.{Source, History, calls_of, reports_of, end_of, Moves, client_after, OutcomesAsDefined, Linked}
use Rattle.history.specs.Promises.{Replayed}
use Rattle.history.specs.Steps.{Call, Report, Step, step}
use Rattle.history.proofs.Promising.{histories_stand}

-- the calls so far, and the client after them
pub record Going {S : Type 0} (src : Source S) (first last : S) (calls : List Call) (reports : List Report) (s : State) : Type 0 where
  pub history : History S
  pub called : calls_of history ≡ calls
  pub reported : reports_of history ≡ reports
  pub linked : Linked src first history
  pub ended : end_of first history ≡ last
  pub defined : OutcomesAsDefined src history
  pub client : client_after src history ≡ s

pub going_begins : {S : Type 0} (src : Source S) (first : S) → Going src first first [] [] new_client
going_begins src first = record { history = []; called = refl; reported = refl; linked = tt; ended = refl; defined = tt; client = refl }

-- what one call more has to show
pub record Goes {S : Type 0} (src : Source S) (before after : S) (call : Call) (report : Report) (s s' : State) : Type 0 where
  pub order : src.in_order before
  pub sound : Sound (src.meaning before)
  pub moves : Moves src s call before after
  pub keeps : Keeps (src.meaning before) (src.meaning after)
  pub told : step (src.meaning before) (src.fits before) s call ≡ record { report = report; state = s' }

pub going_goes : {S : Type 0} (src : Source S) (first before after : S) (calls : List Call) (reports : List Report) (call : Call) (report : Report) (s s' : State) → Goes src before after call report s s' → Going src first before calls reports s → Going src first after (calls ++ (call ∷ [])) (reports ++ (report ∷ [])) s'
going_goes src first before after calls reports call report s s' goes g =
    let now = step (src.meaning before) (src.fits before) (client_after src g.history) call in
    let same : now ≡ record { report = report; state = s' } = ap (λ x. step (src.meaning before) (src.fits before) x call) g.client ∙ goes.told in
    record {
      history = record { before = before; call = call; report = report; after = after } ∷ g.history;
      called = ap (λ x. x ++ (call ∷ [])) g.called;
      reported = ap (λ x. x ++ (report ∷ [])) g.reported;
      linked = (record { begins = sym g.ended; order = goes.order; sound = goes.sound; moves = subst (λ x. Moves src x call before after) (sym g.client) goes.moves; keeps = goes.keeps }, g.linked);
      ended = refl;
      defined = (sym (ap (λ (x : Step). x.report) same), g.defined);
      client = ap (λ (x : Step). x.state) same;
    }

pub going_ends : {S : Type 0} (src : Source S) (first last end : S) (calls all : List Call) (reports told : List Report) (s : State) → calls ≡ all → reports ≡ told → last ≡ end → Going src first last calls reports s → Replayed src first end all told
going_ends src first last end calls all reports told s c r e g =
    record { history = g.history; called = g.called ∙ c; reported = g.reported ∙ r; linked = g.linked; ended = g.ended ∙ e; stands = histories_stand src first g.history g.linked g.defined }
