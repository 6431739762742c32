use Rattle.poolcalls.specs.Stock.{put_entry}
use Rattle.stock.proofs.cells.set_entry.Goals as goal

pub returns : goal.returns
unfolding put_entry
returns c = rw c.entry_word.ensures
