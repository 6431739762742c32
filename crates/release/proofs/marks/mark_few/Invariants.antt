use Rattle.facts.proofs.Prelude.{◌-◌}
use Rattle.release.proofs.MarkSteps.{FewInv}
use Rattle.release.proofs.marks.mark_few.Given as goal

abbrev pub invariant-loop-i : goal.invariant-loop-i
invariant-loop-i l = FewInv l.initial.meta l.shape l.q l.list l.from l.end l.meta l.i

abbrev pub decreases-loop-i : goal.decreases-loop-i
decreases-loop-i l = l.end - l.i
