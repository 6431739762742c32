use Rattle.release.proofs.EverySteps.{EveryInv}
use Rattle.facts.proofs.Prelude.{eqb}
use Rattle.calls.specs.Out.{start_of}
use Rattle.release.proofs.release.of_one_run.Given as goal

abbrev pub invariant-loop-w : goal.invariant-loop-w
invariant-loop-w l = EveryInv (λ w. eqb (start_of l.meta w) l.q) l.list l.w-index
