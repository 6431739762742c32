use Rattle.stock.proofs.PlaceSteps.{put-granule}
use Rattle.stock.proofs.places.put_block.Goals as goal

pub returns : goal.returns
returns c = search put-granule
