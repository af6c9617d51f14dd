-- What comes of a text that is read, and written again. Assumes nothing.
use Rattle.std.specs.Prelude.{◌≡◌, ℕ, if◌then◌else◌, List, ◌++◌, length, drop, Some, None, Ok, Err, Option, Result, nat_le}
use Rattle.names.specs.declared.name.Name.{Name}
use Rattle.zone.specs.declared.refusals.Refusal.{Refusal}
use Rattle.copies.specs.declared.copied.Copied.{Copied}

-- all n bytes, where there is room for them
abbrev pub fitting : ℕ → ℕ → Option ℕ
fitting n room = if nat_le n room then Some n else None

-- the buffer with the text at its front, where it has room for it
abbrev pub overlaid : List ℕ → List ℕ → List ℕ
overlaid text buffer = if nat_le (length text) (length buffer) then text ++ drop (length text) buffer else buffer

-- the name that was read
abbrev pub named : Result Copied Refusal → Result Name Refusal
named (Ok c) = Ok c.name
named (Err e) = Err e

-- a text that was read is written as it was, where the buffer has room; a refusal leaves the buffer alone
abbrev pub Copies : Result Copied Refusal → List ℕ → List ℕ → List ℕ → Type 0
Copies (Ok c) text was is = (c.written ≡ fitting (length text) (length was)) × (is ≡ overlaid text was)
Copies (Err e) text was is = is ≡ was
