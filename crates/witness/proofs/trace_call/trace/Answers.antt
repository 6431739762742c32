use Rattle.witness.proofs.Witnessed.{trace-observed}
use Rattle.witness.proofs.trace_call.trace.Goals as goal

pub returns : goal.returns
returns c = search trace-observed
