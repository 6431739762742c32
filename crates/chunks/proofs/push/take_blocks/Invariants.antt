use Rattle.chunks.proofs.PushLaws.{Clearing}
use Rattle.chunks.proofs.push.take_blocks.Given as goal

abbrev pub invariant-loop-w : goal.invariant-loop-w
invariant-loop-w l = Clearing l.n l.initial.meta l.shape l.list l.meta l.w-index
