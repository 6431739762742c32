use Rattle.facts.proofs.Prelude.{◌-◌, length}
use Rattle.release.proofs.MarkSteps.{MarkInv}
use Rattle.release.proofs.marks.mark_by.Given as goal

abbrev pub invariant-loop-i : goal.invariant-loop-i
invariant-loop-i l = MarkInv l.initial.meta l.shape l.q l.list l.from l.meta l.i

abbrev pub decreases-loop-i : goal.decreases-loop-i
decreases-loop-i l = length l.list - l.i
