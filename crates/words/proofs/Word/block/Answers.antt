-- `words::Word::block` meets its contract.
use Rattle.std.proofs.Common.{lit≤}
use Rattle.words.specs.Word.{kind_bits, kind_width, word_bits}
use Rattle.words.proofs.Masks.{joined}
use Rattle.words.proofs.Word.block.Goals as goal

pub returns : goal.returns
returns c = joined kind_width kind_bits word_bits c.args.kind c.args.granule (lit≤ tt)
