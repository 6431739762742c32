use Rattle.facts.proofs.Prelude.{◌-◌}
use Rattle.release.proofs.StretchSteps.{Stretching}
use Rattle.release.proofs.marks.stretch.Given as goal

abbrev pub invariant-loop-n : goal.invariant-loop-n
invariant-loop-n l = Stretching l.list l.step l.i l.most l.want l.n

abbrev pub decreases-loop-n : goal.decreases-loop-n
decreases-loop-n l = l.most - l.n
