use Rattle.stock.proofs.PlaceSteps.{push_step}
use Rattle.stock.proofs.places.push.Goals as goal

pub returns : goal.returns
returns c = search push_step
