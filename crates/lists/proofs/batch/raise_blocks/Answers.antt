use Rattle.lists.proofs.BatchSteps.{raised-done}
use Rattle.lists.proofs.batch.raise_blocks.Goals as goal

pub returns : goal.returns
returns c = search raised-done
