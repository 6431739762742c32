use Rattle.lists.proofs.PopSteps.{end-pre, end-one, end_none}
use Rattle.lists.proofs.pop.pop_end.Goals as goal

pub give_block-requires : goal.give_block-requires
give_block-requires c = search end-pre

pub returns-then-k-ne0 : goal.returns-then-k-ne0
returns-then-k-ne0 c = search end-one

pub returns-else-k-ne0 : goal.returns-else-k-ne0
returns-else-k-ne0 c = search end_none
