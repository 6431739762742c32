use Rattle.chunks.proofs.PushLaws.{Pushing}
use Rattle.chunks.proofs.push.push_blocks.Given as goal

abbrev pub invariant-loop-i : goal.invariant-loop-i
invariant-loop-i l = Pushing l.initial.meta l.shape l.list l.meta l.i

abbrev pub decreases-loop-i : goal.decreases-loop-i
decreases-loop-i l = l.i
