-- `words::Word::granule` meets its contract.
use lib.Bits.{and_mask}
use Rattle.words.specs.Word.{kind_bits}
use Rattle.words.proofs.Word.granule.Goals as goal

pub returns : goal.returns
returns c = and_mask _ kind_bits
