use Rattle.release.specs.way.Marks.{take_marks}
use Rattle.chunks.proofs.MarkSteps.{Sweeping}
use Rattle.chunks.proofs.marks.take_pages.Given as goal

abbrev pub invariant-loop-chunk : goal.invariant-loop-chunk
invariant-loop-chunk l = Sweeping (λ d q. take_marks d q l.m) l.initial.meta l.chunks l.meta l.chunk-index
