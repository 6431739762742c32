use Rattle.runs.proofs.ActSteps.{planned-off, planned-on}
use Rattle.runs.proofs.act.commit_planned.Goals as goal

pub returns-then-s-eq2 : goal.returns-then-s-eq2
returns-then-s-eq2 c = search planned-off

pub returns : goal.returns
returns c = search planned-on
