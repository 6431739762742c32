use Rattle.release.proofs.OneSteps.{shape-pre, in_run-pre, one-no_run, one_of-class}
use Rattle.release.proofs.one.release_one.Goals as goal

pub run_of-requires : goal.run_of-requires
run_of-requires c = search shape-pre

pub returns-in_default : goal.returns-in_default
returns-in_default c = search (one-no_run, c.in_default.ensures)

pub one_in-requires : goal.one_in-requires
one_in-requires c = search (in_run-pre, c.in-Some.ensures)

pub returns : goal.returns
returns c = search (one_of-class, c.in-Some.ensures)
