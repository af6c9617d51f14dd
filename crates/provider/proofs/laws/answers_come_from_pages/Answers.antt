use Rattle.provider.proofs.Checks.{answers_come_from_pages}
use Rattle.provider.proofs.laws.answers_come_from_pages.Goals as goal

pub returns : goal.returns
returns c = answers_come_from_pages
