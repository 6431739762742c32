-- `words::Word::count` meets its contract: twelve bits of a word fit 32.
use Rattle.std.proofs.Common.{◌/◌, ◌^◌, arith}
use lib.Bits.{and_mask}
use Rattle.words.specs.Word.{count_bits, page_bits}
use Rattle.words.proofs.RoundTrip.{count-lt}
use Rattle.words.proofs.Word.count.Goals as goal

pub overflow_cast-result : goal.overflow_cast-result
overflow_cast-result c = omega (arith, and_mask (c.args.self.bits / 2 ^ page_bits) count_bits, count-lt c.args.self.bits)

pub returns : goal.returns
returns c = and_mask _ count_bits
