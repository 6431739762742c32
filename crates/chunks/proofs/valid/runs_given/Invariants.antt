use Rattle.chunks.proofs.ValidSteps.{Counting}
use Rattle.chunks.proofs.valid.runs_given.Given as goal

abbrev pub invariant-loop-chunk : goal.invariant-loop-chunk
invariant-loop-chunk l = Counting l.meta l.shape l.limits l.chunks l.empties l.colds l.s l.chunk-index
