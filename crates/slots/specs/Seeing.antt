-- The client's slots as the cells of its rules. Assumes nothing.
use Rattle.std.specs.Prelude.{List, map, Some, None, Option}
use Rattle.zone.specs.declared.windows.Window.{Window}
use Rattle.provider.specs.declared.requests.Version.{Version}
use Rattle.history.specs.Cells.{Copy, Cell, State}
use Rattle.slots.specs.declared.slot.Slot.{Slot}
use Rattle.slots.specs.declared.slot.Slots.{Slots}

-- what a slot's window holds, where it holds anything
abbrev pub copy_of : Option Version → Window → Option Copy
copy_of None w = None
copy_of (Some v) w = Some (record { edition = v.edition; tag = v.tag; interval = w.interval; rows = w.rows.items })

abbrev pub cell_of : Slot → Cell
cell_of s = record { owner = s.owner; copy = copy_of s.held s.window; pending = s.pending }

abbrev pub cells_of : Slots → List Cell
cells_of s = map cell_of (s.slots.items)

-- the client as its rules see it
abbrev pub state_of : Slots → State
state_of s = record { cells = cells_of s; floor = s.floor }
