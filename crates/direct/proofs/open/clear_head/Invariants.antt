use Rattle.direct.proofs.CallSteps.{Clearing}
use Rattle.direct.proofs.open.clear_head.Given as goal

abbrev pub invariant-loop-i : goal.invariant-loop-i
invariant-loop-i l = Clearing l.initial.meta l.meta l.i
