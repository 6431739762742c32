use Rattle.lists.proofs.BlockSteps.{more-free, more-fresh}
use Rattle.lists.proofs.blocks.has_more.Goals as goal

pub returns-then-get-ne0 : goal.returns-then-get-ne0
returns-then-get-ne0 c = search more-free

pub returns-else-get-ne0 : goal.returns-else-get-ne0
returns-else-get-ne0 c = search more-fresh
