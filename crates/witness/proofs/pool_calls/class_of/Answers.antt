use Rattle.witness.proofs.Witnessed.{class-observed}
use Rattle.witness.proofs.pool_calls.class_of.Goals as goal

pub returns : goal.returns
returns c = search class-observed
