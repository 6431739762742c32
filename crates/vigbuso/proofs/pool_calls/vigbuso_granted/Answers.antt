use Rattle.facts.proofs.Prelude.{ap}
use Rattle.words.specs.Host.{digit}
use Rattle.vigbuso.proofs.pool_calls.vigbuso_granted.Goals as goal

pub returns : goal.returns
returns c = ap digit c.granted_on.ensures
