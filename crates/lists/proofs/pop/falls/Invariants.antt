use Rattle.facts.proofs.Prelude.{◌+◌, ◌-◌, ◌*◌}
use Rattle.lists.proofs.StretchSteps.{Falling}
use Rattle.lists.proofs.pop.falls.Given as goal

abbrev pub invariant-loop-j : goal.invariant-loop-j
invariant-loop-j l = Falling l.meta l.q l.x l.y l.a l.so (l.y - l.j) (l.a + 2 * l.j)
