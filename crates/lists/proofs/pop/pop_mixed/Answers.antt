use Rattle.lists.proofs.PopSteps.{pairs-none, pairs-pre, pairs-more, pairs-done}
use Rattle.lists.proofs.pop.pop_mixed.Goals as goal

pub loop-j-init : goal.loop-j-init
loop-j-init c = search pairs-none

pub pop_pair-requires : goal.pop_pair-requires
pop_pair-requires c = search pairs-pre

pub loop-j-preserved : goal.loop-j-preserved
loop-j-preserved c = search pairs-more

pub returns : goal.returns
returns c = search pairs-done
