use Rattle.release.proofs.ListSteps.{Taking}
use Rattle.release.proofs.release.take_list.Given as goal

abbrev pub invariant-loop-w : goal.invariant-loop-w
invariant-loop-w l = Taking l.initial.meta l.shape l.q l.list l.meta l.w-iterator.iter.rest.now
