use Rattle.lists.proofs.StretchSteps.{falling-start, falling-turn, falling-end}
use Rattle.lists.proofs.pop.falls.Goals as goal

pub loop-j-init : goal.loop-j-init
loop-j-init c = search falling-start

pub loop-j-preserved : goal.loop-j-preserved
loop-j-preserved c = search falling-turn

pub returns : goal.returns
returns c = search falling-end
