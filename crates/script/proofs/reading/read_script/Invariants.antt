use Rattle.std.proofs.Common.{◌≡◌, ◌+◌, eqb, length, drop}
use Rattle.std.specs.List.{slice_split}
use Rattle.script.specs.Drafts.{unread}
use Rattle.script.specs.Scripts.{lines_read}
use Rattle.script.specs.Seeing.{read_of}
use Rattle.script.proofs.reading.read_script.Given as goal

abbrev pub invariant-loop-index : goal.invariant-loop-index
invariant-loop-index l = let parts = slice_split (λ b. eqb b 10) l.text in lines_read (drop (length l.yielded) parts) (length l.yielded + 1) (read_of l.draft) ≡ lines_read parts 1 unread
