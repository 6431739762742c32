use Rattle.facts.proofs.Prelude.{◌-◌, length}
use Rattle.chunks.proofs.MarkSteps.{OwnInv}
use Rattle.chunks.proofs.marks.mark_words.Given as goal

abbrev pub invariant-loop-i : goal.invariant-loop-i
invariant-loop-i l = OwnInv l.initial.meta l.shape l.list l.meta l.i

abbrev pub decreases-loop-i : goal.decreases-loop-i
decreases-loop-i l = length l.list - l.i
