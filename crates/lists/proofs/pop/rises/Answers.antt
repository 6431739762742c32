use Rattle.lists.proofs.StretchSteps.{rising-start, rising-turn, rising-end}
use Rattle.lists.proofs.pop.rises.Goals as goal

pub loop-j-init : goal.loop-j-init
loop-j-init c = search rising-start

pub loop-j-preserved : goal.loop-j-preserved
loop-j-preserved c = search rising-turn

pub returns : goal.returns
returns c = search rising-end
