use Rattle.chunks.proofs.PushRuns.{TailInv}
use Rattle.chunks.proofs.push.tail_on.Given as goal

abbrev pub invariant-loop-i : goal.invariant-loop-i
invariant-loop-i l = TailInv l.q l.list l.i
