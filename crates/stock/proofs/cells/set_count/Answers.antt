use Rattle.poolcalls.specs.Stock.{put_count}
use Rattle.stock.proofs.cells.set_count.Goals as goal

pub returns : goal.returns
unfolding put_count
returns c = rw c.count_word.ensures
