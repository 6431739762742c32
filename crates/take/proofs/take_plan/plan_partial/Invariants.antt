use Rattle.take.proofs.PlanSteps.{PlanInv}
use Rattle.take.proofs.take_plan.plan_partial.Given as goal

abbrev pub invariant-loop-left : goal.invariant-loop-left
invariant-loop-left l = PlanInv l.n l.meta l.c l.shape l.code l.prev l.left l.virgin

abbrev pub decreases-loop-left : goal.decreases-loop-left
decreases-loop-left l = l.left
