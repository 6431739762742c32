use Rattle.poolcalls.specs.Stock.{place_in}
use Rattle.stock.proofs.cells.place.Goals as goal

pub returns : goal.returns
unfolding place_in
returns c = rw (c.read_bits.ensures, c.place_word.ensures)
