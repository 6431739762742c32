use Rattle.chunks.proofs.NameSteps.{NameInv}
use Rattle.chunks.proofs.naming.name_chunks.Given as goal

abbrev pub invariant-loop-i : goal.invariant-loop-i
invariant-loop-i l = NameInv l.initial.meta l.chunks l.initial.saved l.meta l.saved l.i
