use Rattle.release.proofs.ValidSteps.{limits-there}
use Rattle.release.proofs.valid.limits_at.Goals as goal

pub returns : goal.returns
returns c = search limits-there
