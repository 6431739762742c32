use Rattle.release.proofs.ValidSteps.{destination-empty, destination-cold, destination-arena}
use Rattle.release.proofs.valid.destination_of.Goals as goal

pub returns-then-keeps_empty : goal.returns-then-keeps_empty
returns-then-keeps_empty c = search destination-empty

pub returns-then-colds-limits : goal.returns-then-colds-limits
returns-then-colds-limits c = search destination-cold

pub returns-else-colds-limits : goal.returns-else-colds-limits
returns-else-colds-limits c = search destination-arena
