-- A draft and a script as their definitions see them. Assumes nothing.
use Rattle.std.specs.Prelude.{◌≡◌, ℕ, map, Some, None, Ok, Err, Option, Result}
use Rattle.std.specs.Option.{option_map}
use Rattle.client.specs.declared.listing.Entry.{Entry}
use Rattle.client.specs.declared.listing.Entry.TheVariants as entry
use Rattle.script.specs.declared.scripts.Draft.{Draft}
use Rattle.script.specs.declared.scripts.Fault.{Fault}
use Rattle.script.specs.declared.scripts.Fault.TheVariants.{NotUnderstood, NoMemory}
use Rattle.script.specs.declared.scripts.Script.{Script}
use Rattle.script.specs.declared.scripts.Trouble.{Trouble}
use Rattle.script.specs.declared.scripts.Trouble.TheVariants as trouble
use Rattle.script.specs.Drafts.{Listed, called, published, Read}
use Rattle.script.specs.Scripts.{Whole}

-- a call of the code
abbrev pub listed_of : Entry → Listed
listed_of (entry.Call c) = called c
listed_of (entry.Publish n t) = published n t.interval t.rows.items

-- a draft of the code
abbrev pub read_of : Draft → Read
read_of d = record { storage = d.storage; span = d.span; uplink = option_map (λ x. x.now) d.uplink; downlink = option_map (λ x. x.now) d.downlink; rows = d.rows.items; calls = map listed_of d.entries.items; names = map (λ x. x.now) d.names.items }

-- a script of the code
abbrev pub whole_of : Script → Whole
whole_of s = record { storage = s.setup.storage; span = s.setup.span; uplink = s.setup.uplink.now; downlink = s.setup.downlink.now; calls = map listed_of s.entries.items; names = map (λ x. x.now) s.names.items }

-- what there is now, where it was taken; nothing, where it was refused
abbrev pub told : {T E : Type 0} → Result (Unit {0}) E → T → Option T
told (Ok _) now = Some now
told (Err _) now = None

-- a line was taken, and this was read; or it was refused; or there was no memory for it
abbrev pub Took : Option Read → Result (Unit {0}) Trouble → Read → Type 0
Took wanted (Ok _) now = Some now ≡ wanted
Took wanted (Err trouble.NotUnderstood) now = None ≡ wanted
Took wanted (Err trouble.NoMemory) now = Unit {0}

-- the fault of a script at the line with this number
abbrev pub met : Trouble → ℕ → Fault
met trouble.NotUnderstood line = NotUnderstood line
met trouble.NoMemory line = NoMemory

-- a script that was finished
abbrev pub finish_of : Option Script → Result Whole ℕ
finish_of (Some s) = Ok (whole_of s)
finish_of None = Err 1

-- what was read of a text, where there was memory
abbrev pub Reads : Result Whole ℕ → Result Script Fault → Type 0
Reads x (Ok s) = x ≡ Ok (whole_of s)
Reads x (Err (NotUnderstood n)) = x ≡ Err n
Reads x (Err NoMemory) = Unit {0}
