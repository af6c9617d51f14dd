-- What each call comes to, by the state of the client and what the provider means: the rules of the client. Assumes nothing.
use Rattle.std.specs.Prelude.{ℕ, Bool, cond, List, [], ◌∷◌, length, position, ℤ, Some, None, Option, ◌==◌, nat_le, nat_lt, slice_set}
use Rattle.names.specs.declared.name.Name.{Name}
use Rattle.zone.specs.declared.rows.Interval.{Interval}
use Rattle.zone.specs.declared.windows.Table.{Table}
use Rattle.zone.specs.Intervals.{has_instant, within}
use Rattle.names.specs.Names.{is_name}
use Rattle.zone.specs.Refusals.{Outcome, answered, refused}
use Rattle.zone.specs.Rows.{window_rows}
use Rattle.cutting.specs.declared.locals.Local.{Local}
use Rattle.cutting.specs.Cutting.{cut, local}
use Rattle.provider.specs.Fetching.{checked}
use Rattle.provider.specs.Meaning.{Meaning, Page}
use Rattle.provider.specs.Publishing.{published}
use Rattle.history.specs.Cells.{Copy, Cell, State, free, is_free, place_of, cell_at, with_cell}

-- a call on the client; a collect or an abandon brings the zone's pending fetch
pub data Call : Type 0 where
  begin : Name → Interval → Call
  collect : Name → Call
  abandon : Name → Call
  forget : Name → Call
  query : Name → ℤ → Call
  publish : Name → Table → Call

-- what a call comes to: a begin answers the pending fetch, its slot and interval; a refused collect or abandon hands it back
pub data Report : Type 0 where
  began : ℕ → Interval → Report
  collected : ℕ → Report
  abandoned : Report
  forgotten : Report
  told : ℕ → Local → Report
  announced : ℕ → Report
  declined : ℕ → List ℕ → Report
  handed_back : ℕ → List ℕ → ℕ → Interval → Report
  not_pending : Report

-- what a call comes to, and the client after it
pub record Step : Type 0 where
  pub report : Report
  pub state : State

-- a refusal alters nothing
abbrev pub stays : State → Report → Step
stays s r = record { report = r; state = s }

abbrev pub settled : State → Outcome Step → Step
settled s (answered step) = step
settled s (refused n vs) = stays s (declined n vs)

-- begin: 1, 2, 3 by the request; 8 where the zone has a pending fetch; 9 where no cell is free
abbrev pub marked : State → ℕ → Interval → Cell → Option Interval → Outcome Step
marked s k i c None = answered (record { report = began k i; state = with_cell s k (record { owner = c.owner; copy = c.copy; pending = Some i }) })
marked s k i c (Some j) = refused 8 []

abbrev pub reserved : State → Name → Interval → Option ℕ → Outcome Step
reserved s n i None = refused 9 []
reserved s n i (Some k) = answered (record { report = began k i; state = with_cell s k (record { owner = Some n; copy = None; pending = Some i }) })

abbrev pub begun : State → Name → Interval → Option ℕ → Outcome Step
begun s n i None = reserved s n i (position is_free s.cells)
begun s n i (Some k) = marked s k i (cell_at s k) (cell_at s k).pending

abbrev pub begin_step : Meaning → State → Name → Interval → Step
begin_step m s n i = settled s (checked (record { name = n; interval = i; known = 0 }) m.span (begun s n i (place_of s n)))

-- the tag that a collect sends: that of the copy, if it contains the interval
abbrev pub known_tag : Option Copy → Interval → ℕ
known_tag None i = 0
known_tag (Some c) i = cond (within i c.interval) c.tag 0

-- collect: 4 where the turn is silent, 7 below the floor, 5 without a page, 6 above the rows of a window
abbrev pub accepted : State → ℕ → Interval → ℕ → Page → Step
accepted s k i e p = record { report = collected e; state = record { cells = slice_set s.cells k (record { owner = (cell_at s k).owner; copy = Some (record { edition = e; tag = p.tag; interval = i; rows = cut p.rows i }); pending = None }); floor = e } }

abbrev pub taken : State → ℕ → Interval → ℕ → Option Page → Step
taken s k i e None = stays s (handed_back 5 (e ∷ []) k i)
taken s k i e (Some p) = cond (nat_le (length (cut p.rows i)) window_rows) (accepted s k i e p) (stays s (handed_back 6 (e ∷ []) k i))

abbrev pub collected_at : State → ℕ → Interval → ℕ → Option Page → Step
collected_at s k i e page = cond (e == 0) (stays s (handed_back 4 [] k i)) (cond (nat_lt e s.floor) (stays s (handed_back 7 (e ∷ []) k i)) (taken s k i e page))

-- a zone's pending fetch is collected
abbrev pub collect_pending : Meaning → State → Name → ℕ → Option Interval → Step
collect_pending m s n k None = stays s not_pending
collect_pending m s n k (Some i) = collected_at s k i (m.turn n i) (m.pages (m.turn n i) n)

abbrev pub collect_place : Meaning → State → Name → Option ℕ → Step
collect_place m s n None = stays s not_pending
collect_place m s n (Some k) = collect_pending m s n k (cell_at s k).pending

abbrev pub collect_step : Meaning → State → Name → Step
collect_step m s n = collect_place m s n (place_of s n)

-- abandon: the mark goes, and a cell that was only reserved is free
abbrev pub unmarked : Cell → Option Copy → Cell
unmarked c None = free
unmarked c (Some copy) = record { owner = c.owner; copy = Some copy; pending = None }

abbrev pub abandon_pending : State → ℕ → Option Interval → Step
abandon_pending s k None = stays s not_pending
abandon_pending s k (Some i) = record { report = abandoned; state = with_cell s k (unmarked (cell_at s k) (cell_at s k).copy) }

abbrev pub abandon_place : State → Option ℕ → Step
abandon_place s None = stays s not_pending
abandon_place s (Some k) = abandon_pending s k (cell_at s k).pending

abbrev pub abandon_step : State → Name → Step
abandon_step s n = abandon_place s (place_of s n)

-- forget: 1, 11 where nothing is held, 8 while a fetch is pending; the cell is then free
abbrev pub forgotten_at : State → ℕ → Option Copy → Option Interval → Outcome Step
forgotten_at s k None pending = refused 11 []
forgotten_at s k (Some c) (Some i) = refused 8 []
forgotten_at s k (Some c) None = answered (record { report = forgotten; state = with_cell s k free })

abbrev pub forget_place : State → Option ℕ → Outcome Step
forget_place s None = refused 11 []
forget_place s (Some k) = forgotten_at s k (cell_at s k).copy (cell_at s k).pending

abbrev pub forget_step : State → Name → Step
forget_step s n = settled s (cond (is_name n.bytes) (forget_place s (place_of s n)) (refused 1 []))

-- query: 1, 11 where nothing is held, 12 outside the interval that is held
abbrev pub queried_copy : State → ℤ → Option Copy → Outcome Step
queried_copy s t None = refused 11 []
queried_copy s t (Some c) = cond (has_instant c.interval t) (answered (stays s (told c.edition (local c.rows t)))) (refused 12 [])

abbrev pub query_place : State → ℤ → Option ℕ → Outcome Step
query_place s t None = refused 11 []
query_place s t (Some k) = queried_copy s t (cell_at s k).copy

abbrev pub query_step : State → Name → ℤ → Step
query_step s n t = settled s (cond (is_name n.bytes) (query_place s t (place_of s n)) (refused 1 []))

-- publish is passed down
abbrev pub publish_report : Outcome ℕ → Report
publish_report (answered e) = announced e
publish_report (refused n vs) = declined n vs

abbrev pub publish_step : Meaning → (ℕ → Bool) → State → Name → Table → Step
publish_step m fits s n t = stays s (publish_report (published m fits n t))

-- the rules
abbrev pub step : Meaning → (ℕ → Bool) → State → Call → Step
step m fits s (begin n i) = begin_step m s n i
step m fits s (collect n) = collect_step m s n
step m fits s (abandon n) = abandon_step s n
step m fits s (forget n) = forget_step s n
step m fits s (query n t) = query_step s n t
step m fits s (publish n t) = publish_step m fits s n t
