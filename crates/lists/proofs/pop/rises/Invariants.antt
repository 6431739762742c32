use Rattle.facts.proofs.Prelude.{◌+◌, ◌*◌}
use Rattle.lists.proofs.StretchSteps.{Rising}
use Rattle.lists.proofs.pop.rises.Given as goal

abbrev pub invariant-loop-j : goal.invariant-loop-j
invariant-loop-j l = Rising l.meta l.q l.x l.y l.a l.so (l.x + l.j) (l.a + 2 * l.j)
