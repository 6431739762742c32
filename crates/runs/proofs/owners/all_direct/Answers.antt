use Rattle.runs.proofs.GiveSteps.{looks_start, looks_again, looks_no, looks_done}
use Rattle.runs.proofs.owners.all_direct.Goals as goal

pub loop-left-init : goal.loop-left-init
loop-left-init c = search looks_start

pub returns-then-get-ne-DIRECT : goal.returns-then-get-ne-DIRECT
returns-then-get-ne-DIRECT c = search looks_no

pub loop-left-preserved : goal.loop-left-preserved
loop-left-preserved c = search looks_again

pub returns : goal.returns
returns c = search looks_done
