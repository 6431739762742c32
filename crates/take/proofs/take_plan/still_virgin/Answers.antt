use Rattle.take.proofs.PlanSteps.{virgin-yes}
use Rattle.take.proofs.take_plan.still_virgin.Goals as goal

pub returns-then-v : goal.returns-then-v
returns-then-v c = search virgin-yes
