use Rattle.lists.proofs.BatchSteps.{Naming}
use Rattle.lists.proofs.batch.name_blocks.Given as goal

abbrev pub invariant-loop-j : goal.invariant-loop-j
invariant-loop-j l = Naming l.shape l.q l.initial.list l.at l.from l.k l.list l.j
