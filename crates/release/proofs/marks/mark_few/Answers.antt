use Rattle.release.proofs.MarkSteps.{few-starts, few-goes_on, few-stops, few-ends}
use Rattle.release.proofs.marks.mark_few.Goals as goal

pub loop-i-init : goal.loop-i-init
loop-i-init c = search few-starts

pub loop-i-preserved : goal.loop-i-preserved
loop-i-preserved c = search few-goes_on

pub returns-else-mark_one : goal.returns-else-mark_one
returns-else-mark_one c = search few-stops

pub returns : goal.returns
returns c = search few-ends
