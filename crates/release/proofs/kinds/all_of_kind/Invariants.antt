use Rattle.model.specs.Release.{of_kind}
use Rattle.release.proofs.RunSteps.{GatherInv}
use Rattle.release.proofs.kinds.all_of_kind.Given as goal

abbrev pub invariant-loop-w : goal.invariant-loop-w
invariant-loop-w l = GatherInv (of_kind l.kind) l.list l.any l.w-index
