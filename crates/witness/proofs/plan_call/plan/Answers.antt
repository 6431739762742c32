use Rattle.witness.proofs.Witnessed.{plan-observed}
use Rattle.witness.proofs.plan_call.plan.Goals as goal

pub returns : goal.returns
returns c = search plan-observed
