use Rattle.lists.proofs.BatchSteps.{Raising}
use Rattle.lists.proofs.batch.raise_names.Given as goal

abbrev pub invariant-loop-j : goal.invariant-loop-j
invariant-loop-j l = Raising l.shape l.q l.initial.list l.at l.from l.k l.list l.j
