use Rattle.take.proofs.PlanSteps.{supply-is}
use Rattle.take.proofs.take_plan.supply.Goals as goal

pub returns : goal.returns
returns c = search supply-is
