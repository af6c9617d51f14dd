-- What a fetch comes to. Assumes nothing.
use Rattle.std.specs.Prelude.{◌≡◌, ℕ, Bool, cond, ◌&&◌, List, [], ◌∷◌, length, Some, None, Ok, Err, vec_items, Option, Result, ◌==◌, nat_le}
use Rattle.zone.specs.declared.refusals.Refusal.{Refusal}
use Rattle.zone.specs.declared.rows.Interval.{Interval}
use Rattle.zone.specs.declared.rows.Row.{Row}
use Rattle.zone.specs.declared.windows.Window.{Window}
use Rattle.zone.specs.Intervals.{era, within}
use Rattle.names.specs.Names.{is_name}
use Rattle.zone.specs.Refusals.{Outcome, answered, refused, number, values}
use Rattle.zone.specs.Rows.{Sound as TableSound, table_rows, window_rows}
use Rattle.cutting.specs.Cutting.{cut}
use Rattle.provider.specs.declared.requests.Request.{Request}
use Rattle.provider.specs.declared.requests.Reply.{Reply}
use Rattle.provider.specs.declared.requests.Reply.TheVariants.{Unchanged, Fresh}
use Rattle.provider.specs.Meaning.{Page, Meaning, Keeps}

-- what a fetch answers: that the known tag is still that of the edition's page, or edition, tag and the rows of the cut
pub data Answer : Type 0 where
  unchanged : ℕ → Answer
  fresh : ℕ → ℕ → List Row → Answer

-- the first three checks: 1 the name, 2 the interval in the era, 3 inside the span; then what comes after them
abbrev pub checked : {X : Type 0} → Request → Interval → Outcome X → Outcome X
checked q span next = cond (is_name q.name.bytes) (cond (within q.interval era) (cond (within q.interval span) next (refused 3 [])) (refused 2 [])) (refused 1 [])

-- whether the request passes them
abbrev pub passes : Request → Interval → Bool
passes q span = is_name q.name.bytes && (within q.interval era && within q.interval span)

-- what a page of edition e answers: 6 where its cut has too many rows
abbrev pub page_answer : ℕ → Request → Page → Outcome Answer
page_answer e q p = cond (nat_le (length (cut p.rows q.interval)) window_rows) (cond (p.tag == q.known) (answered (unchanged e)) (answered (fresh e p.tag (cut p.rows q.interval)))) (refused 6 (e ∷ []))

-- what such a page over the interval `of` answers by itself: 3 where the interval asked for is not inside
abbrev pub inside_answer : Interval → ℕ → Request → Page → Outcome Answer
inside_answer of e q p = cond (within q.interval of) (page_answer e q p) (refused 3 [])

-- what edition e answers: 5 where it has no page
abbrev pub edition_answer : ℕ → Request → Option Page → Outcome Answer
edition_answer e q None = refused 5 (e ∷ [])
edition_answer e q (Some p) = page_answer e q p

-- what the turn answers: 4 for silence
abbrev pub turn_answer : ℕ → Request → Option Page → Outcome Answer
turn_answer e q page = cond (e == 0) (refused 4 []) (edition_answer e q page)

-- what a fetch made now comes to
abbrev pub fetched : Meaning → Request → Outcome Answer
fetched m q = checked q m.span (turn_answer (m.turn q.name q.interval) q (m.pages (m.turn q.name q.interval) q.name))

-- what a call returned and left in the lent window, as an outcome
abbrev pub judged : Result Reply Refusal → Window → Outcome Answer
judged (Ok (Unchanged e)) place = answered (unchanged e)
judged (Ok (Fresh e g)) place = answered (fresh e g (vec_items place.rows))
judged (Err r) place = refused (number r) (values r)

-- the window is as it was
abbrev pub Untouched : Window → Window → Type 0
Untouched before after = (after.interval ≡ before.interval) × (after.rows ≡ before.rows)

-- what a call leaves in the lent window besides: at a fresh page the interval asked for, else all as it was
abbrev pub Leaves : Result Reply Refusal → Interval → Window → Window → Type 0
Leaves (Ok (Unchanged e)) i before after = Untouched before after
Leaves (Ok (Fresh e g)) i before after = after.interval ≡ i
Leaves (Err r) i before after = Untouched before after

-- a fetch by a provider that meant m and now means m': it stays in order, keeps its record and its count, and answers by m
pub record Fetched (m m' : Meaning) (in_order : Type 0) (q : Request) (before after : Window) (r : Result Reply Refusal) : Type 0 where
  pub order : in_order
  pub keeps : Keeps m m'
  pub count : m'.count ≡ m.count
  pub told : judged r after ≡ fetched m q
  pub leaves : Leaves r q.interval before after

-- an answer from rows over the interval `of`, under a tag: 13 where they are no table's
pub record RowsTold (of : Interval) (e : ℕ) (q : Request) (p : Page) (r : Result Reply Refusal) (before after : Window) : Type 0 where
  pub table : TableSound table_rows of p.rows → judged r after ≡ inside_answer of e q p
  pub none : (TableSound table_rows of p.rows → ⊥) → judged r after ≡ refused 13 []
  pub leaves : Leaves r q.interval before after
