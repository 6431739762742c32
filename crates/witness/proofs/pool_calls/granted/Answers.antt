use Rattle.witness.proofs.Witnessed.{granted-observed}
use Rattle.witness.proofs.pool_calls.granted.Goals as goal

pub returns : goal.returns
returns c = search granted-observed
