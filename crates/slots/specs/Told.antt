-- What the calls of the slots return, as reports of the rules. Assumes nothing.
use Rattle.std.specs.Prelude.{◌≡◌, ℕ, Bool, false, if◌then◌else◌, [], Some, None, Ok, Err, Option, Result}
use Rattle.names.specs.declared.name.Name.{Name}
use Rattle.zone.specs.declared.refusals.Refusal.{Refusal}
use Rattle.zone.specs.declared.rows.Interval.{Interval}
use Rattle.zone.specs.Intervals.{same_interval, within}
use Rattle.zone.specs.Refusals.{Outcome, answered, refused, number, values}
use Rattle.provider.specs.declared.requests.Request.{Request}
use Rattle.history.specs.Cells.{Copy, Cell, State, cell_at}
use Rattle.history.specs.Steps.{Report, began, abandoned, forgotten, told, declined, handed_back, Step, stays, abandon_pending, known_tag}
use Rattle.slots.specs.declared.answers.Answer.{Answer}

abbrev pub forget_report : Result (Unit {0}) Refusal → Report
forget_report (Ok done) = forgotten
forget_report (Err r) = declined (number r) (values r)

abbrev pub query_report : Result Answer Refusal → Report
query_report (Ok a) = told a.edition a.local
query_report (Err r) = declined (number r) (values r)

-- the slot is pending with this interval
abbrev pub is_pending : Option Interval → Interval → Bool
is_pending None i = false
is_pending (Some j) i = same_interval j i

abbrev pub abandon_token : State → ℕ → Interval → Step
abandon_token s k i = if is_pending (cell_at s k).pending i then abandon_pending s k (Some i) else stays s (handed_back 10 [] k i)

-- the step of the rules comes to this report, and leaves the client in this state
abbrev pub ComesTo : Step → Report → State → Type 0
ComesTo step r s = step ≡ record { report = r; state = s }

-- a zone is begun at a slot, or refused
abbrev pub slot_report : Result ℕ Refusal → Interval → Report
slot_report (Ok k) i = began k i
slot_report (Err r) i = declined (number r) (values r)

-- a query is answered, or refused
abbrev pub answer_outcome : Result Answer Refusal → State → Outcome Step
answer_outcome (Ok a) s = answered (stays s (told a.edition a.local))
answer_outcome (Err r) s = refused (number r) (values r)

-- what came of a pending fetch that was abandoned, by its slot and interval
abbrev pub token_report : Result (Unit {0}) Refusal → ℕ → Interval → Report
token_report (Ok done) k i = abandoned
token_report (Err r) k i = handed_back (number r) (values r) k i

-- the copy, if it contains the interval
abbrev pub covering : Option Copy → Interval → Option Copy
covering None i = None
covering (Some c) i = if within i c.interval then Some c else None

-- the request for what the owner of a slot has pending: with the tag of the copy, if that contains the interval
abbrev pub request_of : Option Name → Option Copy → Interval → Option Request
request_of None copy i = None
request_of (Some n) copy i = Some (record { name = n; interval = i; known = known_tag copy i })

-- the request that a collect sends for a slot: none where the slot is not pending with the interval
abbrev pub request_for : Cell → Interval → Option Request
request_for c i = if is_pending c.pending i then request_of c.owner c.copy i else None
