-- Scripts, whole. Assumes nothing.
use Rattle.std.specs.Prelude.{ℕ, ◌+◌, cond, List, [], ◌∷◌, Some, None, Ok, Err, Option, Result, ◌==◌}
use Rattle.std.specs.Option.{unwrap_or}
use Rattle.zone.specs.declared.rows.Interval.{Interval}
use Rattle.zone.specs.Intervals.{era}
use Rattle.command.specs.declared.lines.Storage.{Storage}
use Rattle.script.specs.Drafts.{Listed, Read, unread, line_read}

-- a byte more in front of the first line
abbrev pub in_front : ℕ → List (List ℕ) → List (List ℕ)
in_front b [] = (b ∷ []) ∷ []
in_front b (line ∷ lines) = (b ∷ line) ∷ lines

-- the lines of a text: each ends with LF or with the text
abbrev pub lines_of : List ℕ → List (List ℕ)
lines_of [] = []
lines_of (b ∷ bs) = cond (b == 10) ([] ∷ lines_of bs) (in_front b (lines_of bs))

-- what the lines come to, of which the first has the number n; or the number of the first that is not understood
abbrev pub lines_read : List (List ℕ) → ℕ → Read → Result Read ℕ
lines_read [] n d = Ok d
lines_read (line ∷ lines) n d = elim (line_read d line) [ None ↦ Err n | Some e ↦ lines_read lines (n + 1) e ]

-- a script: how the stack is set up, the calls, and their names as they stand
pub record Whole : Type 0 where
  pub storage : Storage
  pub span : Interval
  pub uplink : List ℕ
  pub downlink : List ℕ
  pub calls : List Listed
  pub names : List (List ℕ)

-- what is not set: the era as the span, and no marks
abbrev pub set_up : Read → Storage → Whole
set_up d s = record { storage = s; span = unwrap_or d.span era; uplink = unwrap_or d.uplink []; downlink = unwrap_or d.downlink []; calls = d.calls; names = d.names }

-- a script without a storage fails at its first line
abbrev pub finished : Read → Option Storage → Result Whole ℕ
finished d None = Err 1
finished d (Some s) = Ok (set_up d s)

-- what comes of the lines at the script's end
abbrev pub ended : Result Read ℕ → Result Whole ℕ
ended (Ok d) = finished d d.storage
ended (Err n) = Err n

-- what a text comes to: a script, or the number of the line that is not understood
abbrev pub script : List ℕ → Result Whole ℕ
script text = ended (lines_read (lines_of text) 1 unread)
