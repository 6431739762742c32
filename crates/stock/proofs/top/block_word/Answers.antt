use Rattle.stock.proofs.TopSteps.{word-is}
use Rattle.stock.proofs.top.block_word.Goals as goal

pub returns : goal.returns
returns c = search word-is
