use Rattle.lists.proofs.BatchSteps.{naming_none, naming_more, naming_done}
use Rattle.lists.proofs.batch.name_blocks.Goals as goal

pub loop-j-init : goal.loop-j-init
loop-j-init c = search naming_none

pub loop-j-preserved : goal.loop-j-preserved
loop-j-preserved c = search naming_more

pub returns : goal.returns
returns c = search naming_done
