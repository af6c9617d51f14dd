use Rattle.root.proofs.Logged.{pages_are_latest, tags_are_first_numbers}
use Rattle.root.proofs.laws.log_stands.Goals as goal

pub returns : goal.returns
returns c = record { pages = pages_are_latest; tags = tags_are_first_numbers }
