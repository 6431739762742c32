use Rattle.release.proofs.RunSteps.{gather-starts, gather-goes_on, gather-ends}
use Rattle.release.proofs.kinds.all_of_kind.Goals as goal

pub loop-w-init : goal.loop-w-init
loop-w-init c = search gather-starts

pub loop-w-preserved : goal.loop-w-preserved
loop-w-preserved c = search gather-goes_on

pub returns : goal.returns
returns c = search gather-ends
