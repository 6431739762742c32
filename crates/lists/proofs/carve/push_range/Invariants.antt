use Rattle.lists.proofs.CarveSteps.{PushRangeInv}
use Rattle.facts.proofs.Prelude.{◌*◌}
use Rattle.lists.proofs.carve.push_range.Given as goal

abbrev pub invariant-loop-x : goal.invariant-loop-x
invariant-loop-x l = PushRangeInv l.initial.meta l.q l.k l.meta (2 * l.x)
