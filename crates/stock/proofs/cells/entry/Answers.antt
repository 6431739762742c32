use Rattle.poolcalls.specs.Stock.{entry_in}
use Rattle.stock.proofs.cells.entry.Goals as goal

pub returns : goal.returns
unfolding entry_in
returns c = rw c.entry_word.ensures
