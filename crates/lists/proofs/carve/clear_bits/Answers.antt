use Rattle.lists.proofs.CarveSteps.{clear-start, clear-again, clear-done}
use Rattle.lists.proofs.carve.clear_bits.Goals as goal

pub loop-j-init : goal.loop-j-init
loop-j-init c = search clear-start

pub loop-j-preserved : goal.loop-j-preserved
loop-j-preserved c = clear-again _ _ _ _ _ _ _ c.loop-j-test.true c.loop-j.invariant c.clear_word.ensures c.set_word.ensures

pub returns : goal.returns
returns c = search clear-done
