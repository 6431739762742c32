use Rattle.release.proofs.OutSteps.{ClearListInv}
use Rattle.release.proofs.tests.clear_list.Given as goal

abbrev pub invariant-loop-w : goal.invariant-loop-w
invariant-loop-w l = ClearListInv l.n l.initial.meta l.c l.shape l.list l.meta l.w-index
