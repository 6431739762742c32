use Rattle.chunks.proofs.GiveLaws.{Giving}
use Rattle.chunks.proofs.gives.give_chunks.Given as goal

abbrev pub invariant-loop-chunk : goal.invariant-loop-chunk
invariant-loop-chunk l = Giving l.n l.initial.meta l.shape l.chunks l.fates l.meta l.chunk-iterator.a.rest.now l.chunk-iterator.b.rest.now
