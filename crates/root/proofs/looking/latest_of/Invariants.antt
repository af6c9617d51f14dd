use Rattle.root.proofs.Places.{Seen}
use Rattle.root.proofs.looking.latest_of.Given as goal

abbrev pub invariant-loop-entry : goal.invariant-loop-entry
invariant-loop-entry l = Seen l.entries l.name l.entry-index l.latest
