use Rattle.lists.proofs.ListSteps.{link-done}
use Rattle.lists.proofs.links.link_partial.Goals as goal

pub returns : goal.returns
returns c = search link-done
