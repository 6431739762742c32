use Rattle.release.proofs.OutSteps.{PassInv}
use Rattle.release.proofs.tests.mark_list.Given as goal

abbrev pub invariant-loop-i : goal.invariant-loop-i
invariant-loop-i l = PassInv l.n l.initial.meta l.c l.shape l.list l.meta l.i
