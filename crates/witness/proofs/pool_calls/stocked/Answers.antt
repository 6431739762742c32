use Rattle.witness.proofs.Witnessed.{stocked-observed}
use Rattle.witness.proofs.pool_calls.stocked.Goals as goal

pub returns : goal.returns
returns c = search stocked-observed
