use Rattle.std.proofs.Common.{rules}
use Rattle.runs.proofs.CommitSteps.{grows-not, grow-ends, grows-there}
use Rattle.runs.proofs.growth.grow_run.Goals as goal

pub returns-then-a-end : goal.returns-then-a-end
returns-then-a-end c = search grows-not

pub from_frontier-requires : goal.from_frontier-requires
from_frontier-requires c = (search rules, search rules, search grow-ends)

pub returns : goal.returns
returns c = search grows-there
