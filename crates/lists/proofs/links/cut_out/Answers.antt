use Rattle.lists.proofs.ListSteps.{cut-done}
use Rattle.lists.proofs.links.cut_out.Goals as goal

pub returns : goal.returns
returns c = search cut-done
