use Rattle.poolcalls.specs.Stock.{put_place}
use Rattle.stock.proofs.cells.set_place.Goals as goal

pub returns : goal.returns
unfolding put_place
returns c = rw (c.place_bits.ensures, c.place_word-at.ensures)
