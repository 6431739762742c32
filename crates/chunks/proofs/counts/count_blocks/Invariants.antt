use Rattle.facts.proofs.Prelude.{length}
use Rattle.chunks.proofs.CountSteps.{CountInv}
use Rattle.chunks.proofs.counts.count_blocks.Given as goal

abbrev pub invariant-loop-w : goal.invariant-loop-w
invariant-loop-w l = CountInv l.n l.meta l.list l.chunks l.initial.counts l.counts l.rest

abbrev pub decreases-loop-w : goal.decreases-loop-w
decreases-loop-w l = length l.rest
