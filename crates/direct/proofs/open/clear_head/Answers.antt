use Rattle.direct.proofs.CallSteps.{clear-start, clear-again, clear-done}
use Rattle.direct.proofs.open.clear_head.Goals as goal

pub loop-i-init : goal.loop-i-init
loop-i-init c = search clear-start

pub loop-i-preserved : goal.loop-i-preserved
loop-i-preserved c = search clear-again

pub returns : goal.returns
returns c = search clear-done
