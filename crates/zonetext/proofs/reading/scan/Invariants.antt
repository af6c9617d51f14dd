use Rattle.std.proofs.Common.{◌-◌, ◌≤◌, length}
use Rattle.zonetext.specs.Reading.{state_of}
use Rattle.zonetext.proofs.Turns.{Going}
use Rattle.zonetext.proofs.reading.scan.Given as goal

abbrev pub invariant-loop-n : goal.invariant-loop-n
invariant-loop-n l = (l.at ≤ length l.text) × Going l.text l.at (state_of l.reader)

abbrev pub decreases-loop-n : goal.decreases-loop-n
decreases-loop-n l = length l.text - l.at
