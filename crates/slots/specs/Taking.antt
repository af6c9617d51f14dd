-- What a reply to a slot's fetch does to the client, whatever the provider replied. Assumes nothing.
use Rattle.std.specs.Prelude.{ℕ, Bool, false, if◌then◌else◌, [], ◌∷◌, Some, None, Ok, Err, Option, Result, nat_lt, slice_set}
use Rattle.zone.specs.declared.refusals.Refusal.{Refusal}
use Rattle.zone.specs.declared.refusals.Refusal.TheVariants.{BadName, BadInterval, OutsideSpan, Silent, NoPage, TooManyRows, BelowFloor, AlreadyPending, NoFreeSlot, NotPending, NotHeld, OutsideWindow, NotATable, DoesNotFit, BadText, BufferTooShort}
use Rattle.zone.specs.declared.rows.Interval.{Interval}
use Rattle.zone.specs.declared.windows.Window.{Window}
use Rattle.zone.specs.Intervals.{within}
use Rattle.zone.specs.Refusals.{number, values}
use Rattle.cutting.specs.Cutting.{cut}
use Rattle.provider.specs.declared.requests.Reply.{Reply}
use Rattle.provider.specs.declared.requests.Reply.TheVariants.{Unchanged, Fresh}
use Rattle.history.specs.Cells.{Copy, Cell, State, cell_at}
use Rattle.history.specs.Steps.{Report, collected, handed_back, Step, stays}
use Rattle.slots.specs.Told.{is_pending}

-- the copy contains the interval
abbrev pub can_renew : Interval → Option Copy → Bool
can_renew i None = false
can_renew i (Some c) = within i c.interval

-- a copy that is still good, cut to the interval, from a later edition
abbrev pub renewed : Interval → ℕ → Copy → Copy
renewed i e c = record { edition = e; tag = c.tag; interval = i; rows = cut c.rows i }

-- a cell with its copy renewed, where that contains the interval
abbrev pub renewal : Interval → ℕ → Cell → Option Copy → Cell
renewal i e cell None = cell
renewal i e cell (Some c) = if within i c.interval then record { owner = cell.owner; copy = Some (renewed i e c); pending = None } else cell

-- a refusal of an edition below the floor is refused for that
abbrev pub floored : ℕ → Refusal → Refusal
floored f BadName = BadName
floored f BadInterval = BadInterval
floored f OutsideSpan = OutsideSpan
floored f Silent = Silent
floored f (NoPage e) = if nat_lt e f then BelowFloor e else NoPage e
floored f (TooManyRows e) = if nat_lt e f then BelowFloor e else TooManyRows e
floored f (BelowFloor e) = BelowFloor e
floored f AlreadyPending = AlreadyPending
floored f NoFreeSlot = NoFreeSlot
floored f NotPending = NotPending
floored f NotHeld = NotHeld
floored f OutsideWindow = OutsideWindow
floored f NotATable = NotATable
floored f DoesNotFit = DoesNotFit
floored f (BadText o) = BadText o
floored f BufferTooShort = BufferTooShort

-- the slot holds a copy from now on, and the floor is its edition
abbrev pub holds : State → ℕ → ℕ → Cell → Step
holds s k e cell = record { report = collected e; state = record { cells = slice_set s.cells k cell; floor = e } }

-- an unchanged answer: the copy is renewed; where there is none to renew, no answer came
abbrev pub take_unchanged : State → ℕ → Interval → ℕ → Step
take_unchanged s k i e = if can_renew i (cell_at s k).copy then holds s k e (renewal i e (cell_at s k) (cell_at s k).copy) else stays s (handed_back 4 [] k i)

-- a fresh one: the window is the copy
abbrev pub take_fresh : State → ℕ → ℕ → ℕ → Window → Step
take_fresh s k e g w = holds s k e (record { owner = (cell_at s k).owner; copy = Some (record { edition = e; tag = g; interval = w.interval; rows = w.rows.items }); pending = None })

-- 7 for an edition below the floor
abbrev pub take_reply : State → ℕ → Interval → Result Reply Refusal → Window → Step
take_reply s k i (Ok (Unchanged e)) w = if nat_lt e s.floor then stays s (handed_back 7 (e ∷ []) k i) else take_unchanged s k i e
take_reply s k i (Ok (Fresh e g)) w = if nat_lt e s.floor then stays s (handed_back 7 (e ∷ []) k i) else take_fresh s k e g w
take_reply s k i (Err r) w = stays s (handed_back (number (floored s.floor r)) (values (floored s.floor r)) k i)

-- what came of it, by the slot and interval of the pending fetch
abbrev pub taken_report : Result ℕ Refusal → ℕ → Interval → Report
taken_report (Ok e) k i = collected e
taken_report (Err r) k i = handed_back (number r) (values r) k i

-- the step by the reply, where the slot is pending with the interval, else 10
abbrev pub received : State → ℕ → Interval → Result Reply Refusal → Window → Step
received s k i r w = if is_pending (cell_at s k).pending i then take_reply s k i r w else stays s (handed_back 10 [] k i)
