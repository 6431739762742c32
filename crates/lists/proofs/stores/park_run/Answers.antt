use Rattle.lists.proofs.ListSteps.{park_run-done}
use Rattle.lists.proofs.stores.park_run.Goals as goal

pub returns : goal.returns
returns c = search park_run-done
