-- The fates of fetches on a line. Assumes nothing.
use Rattle.std.specs.Prelude.{ℕ, Bool, ◌&&◌, ◌||◌, List, [], map, length, drop, Ok, Err, Result, if◌then◌else◌, ◌==◌, nat_le, slice_index_or}
use Rattle.std.specs.List.{list_all}
use Rattle.line.specs.declared.fates.Fate.{Fate}
use Rattle.line.specs.declared.fates.UnknownMark.{UnknownMark}
use Rattle.line.specs.declared.fates.Fate.TheVariants.{Pass, LoseRequest, LoseReply}

-- the most fates that a line is made with
abbrev pub most_fates : ℕ
most_fates = 64

-- the byte is 'p', 'q' or 'r'
abbrev pub is_mark : ℕ → Bool
is_mark b = b == 112 || (b == 113 || b == 114)

-- all bytes are marks
abbrev pub are_marks : List ℕ → Bool
are_marks bytes = list_all is_mark bytes

-- the fate of a mark: 'q' loses the request, 'r' the reply, 'p' passes
abbrev pub spelled : ℕ → Fate
spelled b = (if b == 113 then LoseRequest else (if b == 114 then LoseReply else Pass))

-- what a byte is read as: the fate that it marks, or an error with a byte that is no mark
abbrev pub read_mark : ℕ → Result Fate UnknownMark
read_mark b = (if is_mark b then Ok (spelled b) else Err (record { 0 = b }))

-- the fates of a line made of these bytes: none where there are too many or one is no mark
abbrev pub fates_of : List ℕ → List Fate
fates_of bytes = (if nat_le (length bytes) most_fates && are_marks bytes then map spelled bytes else [])

-- the fate of the next fetch: the first, or, without fates left, to pass
abbrev pub next_fate : List Fate → Fate
next_fate fates = slice_index_or fates 0 Pass

-- the fates left after it: all but the first, or none
abbrev pub left_after : List Fate → List Fate
left_after fates = drop 1 fates
