-- What is asked below, what is answered and what is kept afterwards. Assumes nothing.
use Rattle.std.specs.Prelude.{ℕ, max, Bool, if◌then◌else◌, ◌&&◌, ◌||◌, List, [], Some, None, Ok, Err, Option, Result, ◌==◌, nat_lt, slice_index}
use Rattle.std.specs.Option.{option_map}
use Rattle.zone.specs.declared.refusals.Refusal.{Refusal}
use Rattle.zone.specs.declared.windows.Window.{Window}
use Rattle.zone.specs.Refusals.{Outcome, refused, number, values}
use Rattle.provider.specs.declared.requests.Reply.{Reply}
use Rattle.provider.specs.declared.requests.Reply.TheVariants.{Unchanged, Fresh}
use Rattle.provider.specs.declared.requests.Request.{Request}
use Rattle.provider.specs.Fetching.{Answer, inside_answer, judged}
use Rattle.kept.specs.declared.steps.Step.{Step}
use Rattle.kept.specs.declared.steps.Step.TheVariants.{PassOn, Serve, Renew, Take}
use Rattle.kept.specs.Keeping.{Kept, kept_for, serving, place_of, place_for, with_page, may_replace, from_edition}

-- the request with the tag of the page that is kept over its interval; with none, as it is
abbrev pub known_by : Option Kept → Request → Request
known_by None q = q
known_by (Some k) q = record { name = q.name; interval = q.interval; known = k.tag }

-- the request that is sent below
abbrev pub sent : List (Option Kept) → Request → Request
sent ps q = known_by (serving ps q.name q.interval) q

-- the larger of the turn below and the edition of the page that is kept over the interval
abbrev pub turn_over : Option Kept → ℕ → ℕ
turn_over None turn = turn
turn_over (Some k) turn = max k.edition turn

-- silence, or a refusal with 5 or 6 by an edition below k
abbrev pub is_older : ℕ → Refusal → Bool
is_older k r = number r == 4 || ((number r == 5 || number r == 6) && nat_lt (slice_index (values r) 0) k)

-- what is done where a page of edition k is kept over the interval, and below answered r
abbrev pub step_over : ℕ → Result Reply Refusal → Step
step_over k (Err r) = if is_older k r then Serve k else PassOn
step_over k (Ok (Unchanged e)) = Renew (max k e)
step_over k (Ok (Fresh e t)) = if nat_lt e k then Serve k else Take e t

-- what is done where none is
abbrev pub step_beside : Result Reply Refusal → Step
step_beside (Err r) = PassOn
step_beside (Ok (Unchanged e)) = PassOn
step_beside (Ok (Fresh e t)) = Take e t

-- what is done with an answer from below
abbrev pub step : Option Kept → Result Reply Refusal → Step
step None r = step_beside r
step (Some k) r = step_over k.edition r

-- what the page that is kept answers as of edition m; silence where none is
abbrev pub from_kept : ℕ → Request → Option Kept → Outcome Answer
from_kept m q None = refused 4 []
from_kept m q (Some k) = inside_answer k.interval m q (record { tag = k.tag; rows = k.rows })

-- what a fresh page in the window w answers
abbrev pub from_window : ℕ → ℕ → Request → Window → Outcome Answer
from_window e t q w = inside_answer w.interval e q (record { tag = t; rows = w.rows.items })

-- what is answered by a step, where below answered r and left w in the window that it was lent
abbrev pub answer_by : List (Option Kept) → Request → Result Reply Refusal → Window → Step → Outcome Answer
answer_by ps q r w PassOn = judged r w
answer_by ps q r w (Serve m) = from_kept m q (kept_for ps q.name)
answer_by ps q r w (Renew m) = from_kept m q (kept_for ps q.name)
answer_by ps q r w (Take e t) = from_window e t q w

-- what is answered
abbrev pub answer_after : List (Option Kept) → Request → Result Reply Refusal → Window → Outcome Answer
answer_after ps q r w = answer_by ps q r w (step (serving ps q.name q.interval) r)

-- the page of the request's name that the window w holds
abbrev pub page_in : Request → ℕ → ℕ → Window → Kept
page_in q e t w = record { name = q.name; edition = e; tag = t; interval = w.interval; rows = w.rows.items }

-- what is kept after a step
abbrev pub kept_by : List (Option Kept) → Request → Window → Step → List (Option Kept)
kept_by ps q w PassOn = ps
kept_by ps q w (Serve m) = ps
kept_by ps q w (Renew m) = with_page ps (place_of ps q.name) (option_map (from_edition m) (kept_for ps q.name))
kept_by ps q w (Take e t) = if may_replace e (kept_for ps q.name) then with_page ps (place_for ps q.name) (Some (page_in q e t w)) else ps

-- what is kept afterwards
abbrev pub kept_after : List (Option Kept) → Request → Result Reply Refusal → Window → List (Option Kept)
kept_after ps q r w = kept_by ps q w (step (serving ps q.name q.interval) r)
