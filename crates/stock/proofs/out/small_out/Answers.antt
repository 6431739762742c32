use Rattle.stock.proofs.OutSteps.{small-no_block, small-has_bit, small-bit, small-away}
use Rattle.stock.proofs.out.small_out.Goals as goal

pub returns-then-not-is_run : goal.returns-then-not-is_run
returns-then-not-is_run c = search small-away

pub bit-requires : goal.bit-requires
bit-requires c = search (small-has_bit, c.in-Some.ensures)

pub returns-in-Some : goal.returns-in-Some
returns-in-Some c = search (small-bit, c.in-Some.ensures)

pub returns-in-None : goal.returns-in-None
returns-in-None c = search (small-no_block, c.in-None.ensures)
