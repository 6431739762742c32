use Rattle.lists.proofs.DrawSteps.{both-done}
use Rattle.lists.proofs.draw.give_blocks.Goals as goal

pub returns : goal.returns
returns c = search both-done
