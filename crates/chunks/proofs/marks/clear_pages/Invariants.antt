use Rattle.chunks.proofs.MarkSteps.{Sweeping}
use Rattle.fields.specs.Clear.{clear_marks}
use Rattle.chunks.proofs.marks.clear_pages.Given as goal

abbrev pub invariant-loop-chunk : goal.invariant-loop-chunk
invariant-loop-chunk l = Sweeping (λ d q. clear_marks d q l.m) l.initial.meta l.chunks l.meta l.chunk-index
