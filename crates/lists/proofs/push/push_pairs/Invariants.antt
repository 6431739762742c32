use Rattle.facts.proofs.Prelude.{◌+◌, ◌-◌, ◌*◌}
use Rattle.lists.proofs.PushSteps.{Pairing}
use Rattle.lists.proofs.push.push_pairs.Given as goal

abbrev pub invariant-loop-j : goal.invariant-loop-j
invariant-loop-j l = Pairing l.initial.meta l.shape l.q l.x l.list l.n l.meta (l.n - 2 * l.j) (l.x + l.j)
