use Rattle.lists.proofs.CarveSteps.{push_range_pair, push_range_last, push_range_all}
use Rattle.lists.proofs.carve.push_range.Goals as goal

pub loop-x-preserved : goal.loop-x-preserved
loop-x-preserved c = search push_range_pair

pub returns-then-k-eq1 : goal.returns-then-k-eq1
returns-then-k-eq1 c = search push_range_last

pub returns-else-k-eq1 : goal.returns-else-k-eq1
returns-else-k-eq1 c = search push_range_all
