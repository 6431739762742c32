use Rattle.poolcalls.specs.Stock.{count_in}
use Rattle.stock.proofs.cells.count.Goals as goal

pub returns : goal.returns
unfolding count_in
returns c = rw c.count_word.ensures
