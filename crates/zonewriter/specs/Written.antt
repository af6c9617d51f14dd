-- What writing comes to, and the buffer after it. Assumes nothing.
use Rattle.std.specs.Prelude.{ℕ, if◌then◌else◌, ◌&&◌, List, [], ◌++◌, length, take, drop, Ok, Err, Result, nat_le}
use Rattle.zone.specs.declared.refusals.Refusal.{Refusal}
use Rattle.names.specs.Names.{is_name}
use Rattle.zone.specs.Refusals.{Outcome, answered, refused}
use Rattle.zonetext.specs.Laws.{ReadsAs}
use Rattle.zonetext.specs.Reading.{Zone}
use Rattle.zonetext.specs.Writing.{text_of}

-- what writing into a buffer of n bytes comes to: refusal 1 for a name that is none, refusal 16 for a text that is longer than the buffer, or the text's length
abbrev pub writing : Zone → ℕ → Outcome ℕ
writing z n = if is_name z.name then (if nat_le (length (text_of z)) n then answered (length (text_of z)) else refused 16 []) else refused 1 []

-- the buffer after it: the text and then what stood past it, or at a refusal what stood there
abbrev pub written : Zone → List ℕ → List ℕ
written z buffer = if is_name z.name && nat_le (length (text_of z)) (length buffer) then text_of z ++ drop (length (text_of z)) buffer else buffer

-- what was written reads as the zone
abbrev pub ReadsBack : Result ℕ Refusal → Zone → List ℕ → Type 0
ReadsBack (Ok n) z buffer = ReadsAs (take n buffer) z
ReadsBack (Err e) z buffer = Unit {0}
