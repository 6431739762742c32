use Rattle.lists.proofs.CarveSteps.{ClearInv}
use Rattle.lists.proofs.carve.clear_bits.Given as goal

abbrev pub invariant-loop-j : goal.invariant-loop-j
invariant-loop-j l = ClearInv l.initial.meta l.q l.k l.meta l.j
