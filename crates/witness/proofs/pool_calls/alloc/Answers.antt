use Rattle.witness.proofs.Witnessed.{alloc-observed}
use Rattle.witness.proofs.pool_calls.alloc.Goals as goal

pub returns : goal.returns
returns c = search alloc-observed
