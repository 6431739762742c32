use Rattle.release.proofs.StretchSteps.{lowest-up, lowest-down, lowest-left}
use Rattle.release.proofs.marks.lowest.Goals as goal

pub overflow_sub-result : goal.overflow_sub-result
overflow_sub-result c = search lowest-left

pub returns-then-up : goal.returns-then-up
returns-then-up c = search lowest-up

pub returns-else-up : goal.returns-else-up
returns-else-up c = search lowest-down
