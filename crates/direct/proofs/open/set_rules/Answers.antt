use Rattle.direct.proofs.CallSteps.{rule_start, rule_again, pool-start, pool-again, rule_done}
use Rattle.direct.proofs.open.set_rules.Goals as goal

pub loop-c-init : goal.loop-c-init
loop-c-init c = search rule_start

pub loop-c-preserved : goal.loop-c-preserved
loop-c-preserved c = search rule_again

pub loop-k-init : goal.loop-k-init
loop-k-init c = search pool-start

pub loop-k-preserved : goal.loop-k-preserved
loop-k-preserved c = search pool-again

pub returns : goal.returns
returns c = search rule_done
