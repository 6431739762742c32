use Rattle.witness.proofs.Witnessed.{free-observed}
use Rattle.witness.proofs.pool_calls.free.Goals as goal

pub returns : goal.returns
returns c = search free-observed
