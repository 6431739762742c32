use Rattle.release.proofs.OutSteps.{mark-has, clean-told, clean-over}
use Rattle.release.proofs.tests.is_clean.Goals as goal

pub word-requires : goal.word-requires
word-requires c = search (mark-has, c.in-Some.ensures)

pub returns-in-Some : goal.returns-in-Some
returns-in-Some c = search (clean-told, c.in-Some.ensures)

pub returns-in-None : goal.returns-in-None
returns-in-None c = search (clean-over, c.in-None.ensures)
