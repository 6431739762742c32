use Rattle.lists.proofs.BatchSteps.{setting_outs_none, setting_outs_more, setting_outs_done}
use Rattle.lists.proofs.batch.set_out_run.Goals as goal

pub loop-left-init : goal.loop-left-init
loop-left-init c = search setting_outs_none

pub loop-left-preserved : goal.loop-left-preserved
loop-left-preserved c = search setting_outs_more

pub returns : goal.returns
returns c = search setting_outs_done
