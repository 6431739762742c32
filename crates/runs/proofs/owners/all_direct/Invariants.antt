use Rattle.runs.proofs.GiveSteps.{Looking}
use Rattle.runs.proofs.owners.all_direct.Given as goal

abbrev pub invariant-loop-left : goal.invariant-loop-left
invariant-loop-left l = Looking l.meta l.first l.pages l.left

abbrev pub decreases-loop-left : goal.decreases-loop-left
decreases-loop-left l = l.left
