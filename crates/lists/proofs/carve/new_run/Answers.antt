use Rattle.lists.proofs.CarveSteps.{new-done}
use Rattle.lists.proofs.carve.new_run.Goals as goal

pub returns : goal.returns
returns c = search new-done
