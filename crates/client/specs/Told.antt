-- What the client's calls return, as reports of the rules. Assumes nothing.
use Rattle.std.specs.Prelude.{◌≡◌, ℕ, false, [], Some, None, Ok, Err, Option, Result}
use Rattle.zone.specs.declared.refusals.Refusal.{Refusal}
use Rattle.zone.specs.declared.rows.Interval.{Interval}
use Rattle.zone.specs.Refusals.{number, values}
use Rattle.provider.specs.declared.requests.Request.{Request}
use Rattle.provider.specs.Meaning.{Meaning}
use Rattle.history.specs.Cells.{State, cell_at}
use Rattle.history.specs.Steps.{Report, began, collected, abandoned, declined, handed_back, Step, stays, collected_at}
use Rattle.slots.specs.Told.{request_for}
use Rattle.client.specs.declared.pending.PendingFetch.{PendingFetch}

-- a begin answers an unspent pending fetch
abbrev pub begin_report : Result PendingFetch Refusal → Report
begin_report (Ok p) = began p.slot p.interval
begin_report (Err r) = declined (number r) (values r)

abbrev pub Unspent : Result PendingFetch Refusal → Type 0
Unspent (Ok p) = p.spent ≡ false
Unspent (Err r) = Unit {0}

-- a refused collect hands the pending fetch back
abbrev pub collect_report : Result ℕ (Refusal × PendingFetch) → Report
collect_report (Ok e) = collected e
collect_report (Err r) = handed_back (number r.0) (values r.0) r.1.slot r.1.interval

abbrev pub HandsBack : {X : Type 0} → PendingFetch → Result X (Refusal × PendingFetch) → Type 0
HandsBack p (Ok x) = Unit {0}
HandsBack p (Err r) = r.1 ≡ p

-- a fetch is settled, or handed back
abbrev pub settled_with : {X : Type 0} → PendingFetch → Result X Refusal → Result X (Refusal × PendingFetch)
settled_with p (Ok x) = Ok x
settled_with p (Err r) = Err (r, p)

abbrev pub abandon_report : Result (Unit {0}) (Refusal × PendingFetch) → Report
abandon_report (Ok done) = abandoned
abandon_report (Err r) = handed_back (number r.0) (values r.0) r.1.slot r.1.interval

-- a pending fetch is collected: 10 where its slot has no request
abbrev pub collect_request : Meaning → State → ℕ → Interval → Option Request → Step
collect_request m s k i None = stays s (handed_back 10 [] k i)
collect_request m s k i (Some q) = collected_at s k i (m.turn q.name i) (m.pages (m.turn q.name i) q.name)

abbrev pub collect_token : Meaning → State → ℕ → Interval → Step
collect_token m s k i = collect_request m s k i (request_for (cell_at s k) i)
