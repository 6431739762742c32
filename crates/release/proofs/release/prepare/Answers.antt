use Rattle.release.proofs.ReleaseSteps.{ready_at-once, test_pre, tested}
use Rattle.release.proofs.release.prepare.Goals as goal

pub returns-in-Some : goal.returns-in-Some
returns-in-Some c = search (ready_at-once, c.in-Some.ensures)

pub test_list-requires : goal.test_list-requires
test_list-requires c = search (test_pre, c.in-None.ensures)

pub returns-in-None : goal.returns-in-None
returns-in-None c = search (tested, c.in-None.ensures)
