use Rattle.runs.proofs.RecordSteps.{own-start, own-again, own-done}
use Rattle.runs.proofs.owners.own.Goals as goal

pub loop-p-init : goal.loop-p-init
loop-p-init c = search own-start

pub loop-p-preserved : goal.loop-p-preserved
loop-p-preserved c = search own-again

pub returns : goal.returns
returns c = search own-done
