use Rattle.lists.proofs.RunSteps.{name-start, name-again, name_done}
use Rattle.lists.proofs.runs.name_run.Goals as goal

pub loop-x-init : goal.loop-x-init
loop-x-init c = search name-start

pub loop-x-preserved : goal.loop-x-preserved
loop-x-preserved c = search name-again

pub returns : goal.returns
returns c = search name_done
