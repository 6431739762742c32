use Rattle.trace.proofs.StepWays.{size_is}
use Rattle.trace.proofs.steps.size_of.Goals as goal

pub returns : goal.returns
returns c = search size_is
