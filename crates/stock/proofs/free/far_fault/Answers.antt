use Rattle.stock.proofs.FreeSteps.{far-other, far-away}
use Rattle.stock.proofs.free.far_fault.Goals as goal

pub returns-then-x-ge-KIND : goal.returns-then-x-ge-KIND
returns-then-x-ge-KIND c = search far-other

pub returns-else-x-ge-KIND : goal.returns-else-x-ge-KIND
returns-else-x-ge-KIND c = search far-away
