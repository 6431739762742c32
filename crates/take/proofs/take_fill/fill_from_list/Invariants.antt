use Rattle.take.proofs.FillSteps.{FillInv}
use Rattle.take.proofs.take_fill.fill_from_list.Given as goal

abbrev pub invariant-loop-at : goal.invariant-loop-at
invariant-loop-at l = FillInv l.initial.meta l.c l.shape l.initial.list l.meta l.list l.at l.m

abbrev pub decreases-loop-at : goal.decreases-loop-at
decreases-loop-at l = l.at
