use Rattle.lists.proofs.BatchSteps.{carved-done}
use Rattle.lists.proofs.batch.carve_blocks.Goals as goal

pub returns : goal.returns
returns c = search carved-done
