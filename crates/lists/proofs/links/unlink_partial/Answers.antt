use Rattle.lists.proofs.ListSteps.{unlink-done}
use Rattle.lists.proofs.links.unlink_partial.Goals as goal

pub returns : goal.returns
returns c = search unlink-done
