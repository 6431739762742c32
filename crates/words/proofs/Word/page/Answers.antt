-- `words::Word::page` meets its contract.
use lib.Bits.{and_mask}
use Rattle.words.specs.Word.{page_bits}
use Rattle.words.proofs.Word.page.Goals as goal

pub returns : goal.returns
returns c = and_mask _ page_bits
