use Rattle.runs.proofs.Planning.{scans-start, part-scans, one-scans, touches_done}
use Rattle.runs.proofs.plans.neighbours.Goals as goal

pub loop-left-init : goal.loop-left-init
loop-left-init c = search scans-start

pub loop-left-preserved : goal.loop-left-preserved
loop-left-preserved c = search part-scans

pub loop-left-2-preserved : goal.loop-left-2-preserved
loop-left-2-preserved c = search one-scans

pub returns : goal.returns
returns c = search touches_done
