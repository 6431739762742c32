use Rattle.plan.proofs.PlanSteps.{plan_done, plan_refused}
use Rattle.vigbuso.proofs.plan_call.vigbuso_plan.Goals as goal

pub returns-in-Ok : goal.returns-in-Ok
returns-in-Ok c = plan_done _ _ _ _ c.in-Ok.ensures

pub returns-in-Err : goal.returns-in-Err
returns-in-Err c = plan_refused _ _ _ _ _ c.in-Err.ensures c.number.ensures
