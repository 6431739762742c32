use Rattle.runs.proofs.Planning.{plans_none}
use Rattle.runs.proofs.plans.plan.Goals as goal

pub returns-then-a-eq0 : goal.returns-then-a-eq0
returns-then-a-eq0 c = search plans_none
