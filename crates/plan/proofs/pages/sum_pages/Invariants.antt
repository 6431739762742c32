use Rattle.plan.proofs.PageSteps.{SumInv}
use Rattle.plan.proofs.pages.sum_pages.Given as goal

abbrev pub invariant-loop-class : goal.invariant-loop-class
invariant-loop-class l = SumInv l.sums l.pages l.class
