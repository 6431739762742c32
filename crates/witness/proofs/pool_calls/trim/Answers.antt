use Rattle.witness.proofs.Witnessed.{trim-observed}
use Rattle.witness.proofs.pool_calls.trim.Goals as goal

pub returns : goal.returns
returns c = search trim-observed
