use Rattle.lists.proofs.CarveSteps.{at_once-all, at_once-none}
use Rattle.lists.proofs.carve.carved_at_once.Goals as goal

pub returns-then-shape-eq-MEDIUM : goal.returns-then-shape-eq-MEDIUM
returns-then-shape-eq-MEDIUM c = search at_once-all

pub returns-else-shape-eq-MEDIUM : goal.returns-else-shape-eq-MEDIUM
returns-else-shape-eq-MEDIUM c = search at_once-none
