use Rattle.stock.proofs.TopSteps.{granules-are}
use Rattle.stock.proofs.top.block_granules.Goals as goal

pub returns : goal.returns
returns c = search granules-are
