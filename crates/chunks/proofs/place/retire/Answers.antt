use Rattle.chunks.proofs.PlaceSteps.{retires}
use Rattle.chunks.proofs.place.retire.Goals as goal

pub returns : goal.returns
returns c = search retires
