use Rattle.chunks.proofs.NameSteps.{UnnameInv}
use Rattle.chunks.proofs.naming.unname_chunks.Given as goal

abbrev pub invariant-loop-i : goal.invariant-loop-i
invariant-loop-i l = UnnameInv l.initial.meta l.chunks l.saved l.meta l.i
