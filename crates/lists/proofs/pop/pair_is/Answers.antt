use Rattle.lists.proofs.StretchSteps.{pair-told}
use Rattle.lists.proofs.pop.pair_is.Goals as goal

pub returns : goal.returns
returns c = search pair-told
