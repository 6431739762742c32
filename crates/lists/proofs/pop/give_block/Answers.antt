use Rattle.lists.proofs.DrawSteps.{handed_out-one}
use Rattle.lists.proofs.pop.give_block.Goals as goal

pub returns : goal.returns
returns c = search handed_out-one
