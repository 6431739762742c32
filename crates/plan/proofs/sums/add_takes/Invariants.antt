use Rattle.std.proofs.Common.{length}
use Rattle.plan.proofs.AddSteps.{AddInv}
use Rattle.plan.proofs.sums.add_takes.Given as goal

abbrev pub invariant-loop-size : goal.invariant-loop-size
invariant-loop-size l = AddInv l.fn.sizes l.fn.takes l.sums (length l.yielded)
