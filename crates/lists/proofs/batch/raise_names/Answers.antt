use Rattle.lists.proofs.BatchSteps.{raising_none, raising_more, raising_done}
use Rattle.lists.proofs.batch.raise_names.Goals as goal

pub loop-j-init : goal.loop-j-init
loop-j-init c = search raising_none

pub loop-j-preserved : goal.loop-j-preserved
loop-j-preserved c = search raising_more

pub returns : goal.returns
returns c = search raising_done
