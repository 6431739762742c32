use Rattle.direct.proofs.CallSteps.{clamp_is}
use Rattle.direct.proofs.calls.clamp.Goals as goal

pub returns : goal.returns
returns c = search clamp_is
