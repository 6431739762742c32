use Rattle.lists.proofs.PopSteps.{Pairs}
use Rattle.lists.proofs.pop.pop_mixed.Given as goal

abbrev pub invariant-loop-j : goal.invariant-loop-j
invariant-loop-j l = Pairs l.initial.meta l.shape l.q l.initial.list l.at l.x l.k l.meta l.list l.j
