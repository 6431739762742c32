use Rattle.runs.proofs.Planning.{scans-start, ends-again, ends-done}
use Rattle.runs.proofs.plans.all_end_valid.Goals as goal

pub loop-left-init : goal.loop-left-init
loop-left-init c = search scans-start

pub loop-left-preserved : goal.loop-left-preserved
loop-left-preserved c = search ends-again

pub returns : goal.returns
returns c = search ends-done
