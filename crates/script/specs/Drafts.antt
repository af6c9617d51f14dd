-- What the lines of a script come to, one after the other. Assumes nothing.
use Rattle.std.specs.Prelude.{ℕ, Bool, if◌then◌else◌, not, ◌&&◌, ◌||◌, List, [], ◌∷◌, ◌++◌, length, is_some, Some, None, Option, ◌==◌, slice_index}
use Rattle.names.specs.declared.name.Name.{Name}
use Rattle.zone.specs.declared.rows.Interval.{Interval}
use Rattle.zone.specs.declared.rows.Row.{Row}
use Rattle.client.specs.declared.listing.Call.{Call}
use Rattle.command.specs.declared.lines.Command.{Command}
use Rattle.command.specs.declared.lines.Command.TheVariants.{Store, Truncate, Uplink, Downlink, Gather, Publish, Make}
use Rattle.command.specs.declared.lines.Stay.{Stay}
use Rattle.command.specs.declared.lines.Storage.{Storage}
use Rattle.command.specs.Commands.{bind, blank, command}
use Rattle.command.specs.Words.{rest, word}

-- a call of a script: one on the client, or the publication of rows over an interval
pub data Listed : Type 0 where
  called : Call → Listed
  published : Name → Interval → List Row → Listed

-- what was set so far, the rows gathered for the next table, and the calls so far with their names
pub record Read : Type 0 where
  pub storage : Option Storage
  pub span : Option Interval
  pub uplink : Option (List ℕ)
  pub downlink : Option (List ℕ)
  pub rows : List Row
  pub calls : List Listed
  pub names : List (List ℕ)

-- nothing was read yet
abbrev pub unread : Read
unread = record { storage = None; span = None; uplink = None; downlink = None; rows = []; calls = []; names = [] }

-- the storage is known, and no call or row came yet
abbrev pub setting_up : Read → Bool
setting_up d = is_some d.storage && (length d.rows == 0 && length d.calls == 0)

-- Settings come at most once each: the storage first, the others before the first call or row.
-- the storage set
abbrev pub stored : Read → Storage → Option Read
stored d s = if is_some d.storage then None else Some (record d { storage = Some s })

-- the span of the truncation set
abbrev pub truncated : Read → Interval → Option Read
truncated d i = if setting_up d && not (is_some d.span) then Some (record d { span = Some i }) else None

-- the marks of the line below the relay set
abbrev pub uplinked : Read → List ℕ → Option Read
uplinked d marks = if setting_up d && not (is_some d.uplink) then Some (record d { uplink = Some marks }) else None

-- the marks of the line above the relay set
abbrev pub downlinked : Read → List ℕ → Option Read
downlinked d marks = if setting_up d && not (is_some d.downlink) then Some (record d { downlink = Some marks }) else None

-- one more row
abbrev pub gathered : Read → Row → Read
gathered d r = record d { rows = d.rows ++ r ∷ [] }

-- one more call, with its name as it stands
abbrev pub listed : Read → Listed → List ℕ → Read
listed d c name = record d { calls = d.calls ++ c ∷ []; names = d.names ++ name ∷ [] }

-- the gathered rows published, and none gathered
abbrev pub posted : Read → Stay → List ℕ → Read
posted d s name = record d { rows = []; calls = d.calls ++ published s.name s.interval d.rows ∷ []; names = d.names ++ name ∷ [] }

-- what a command does, where the storage came first; `w` is the second word of its line
abbrev pub moved : Read → List ℕ → Command → Option Read
moved d w (Store s) = stored d s
moved d w (Truncate i) = truncated d i
moved d w Uplink = uplinked d w
moved d w Downlink = downlinked d w
moved d w (Gather r) = if is_some d.storage then Some (gathered d r) else None
moved d w (Publish s) = if is_some d.storage then Some (posted d s w) else None
moved d w (Make c) = if is_some d.storage then Some (listed d (called c) w) else None

-- the line says nothing: it is blank, or begins with '#'
abbrev pub skipped : List ℕ → Bool
skipped line = blank line || slice_index line 0 == 35

-- what a line does; none where it is not understood
abbrev pub line_read : Read → List ℕ → Option Read
line_read d line = if skipped line then Some d else bind (command line) (moved d (word (rest line)))
