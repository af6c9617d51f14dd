use Rattle.std.proofs.Common.{◌≡◌, [], ◌∷◌, ◌++◌, pos, Some, codes, refl}
use Rattle.fields.specs.Offsets.{parsed, printed}
use Rattle.fields.specs.Stamps.{stamp_read, stamp_text}
use Rattle.zonetext.specs.Examples.{onset_said, lines_text, paris_head, paris, paris_text, broken_text}
use Rattle.zonetext.specs.Laws.{ReadsAs}
use Rattle.zonetext.specs.Lines.{cut, split, said}
use Rattle.zonetext.specs.Reading.{fails, run, reading}
use Rattle.zonetext.specs.Values.{start_read, until_read}
use Rattle.zonetext.proofs.laws.worked.Goals as goal

an_onset : onset_said (codes "20240331T020000") (codes "+0100") ≡ Some (pos 1711846800)
unfolding start_read stamp_read stamp_text parsed printed
an_onset = refl

a_text : ReadsAs paris_text paris
unfolding start_read until_read stamp_read stamp_text parsed printed cut split said run reading
a_text = refl

no_text : reading [] ≡ fails 0
unfolding cut run reading
no_text = refl

early_end : reading (codes "BEGIN:VTIMEZONE") ≡ fails 15
unfolding cut run reading
early_end = refl

without_rows : reading (lines_text (paris_head ++ (codes "END:VTIMEZONE" ∷ []))) ≡ fails 62
unfolding start_read until_read stamp_read stamp_text cut split said run reading
without_rows = refl

bytes_after : reading (paris_text ++ codes "X") ≡ fails 263
unfolding start_read until_read stamp_read stamp_text parsed printed cut split said run reading
bytes_after = refl

other_from : reading broken_text ≡ fails 234
unfolding start_read until_read stamp_read stamp_text parsed printed cut split said run reading
other_from = refl

pub returns : goal.returns
returns c = record { onset = an_onset; whole = a_text; empty = no_text; early = early_end; no_rows = without_rows; more_bytes = bytes_after; broken = other_from }
