use Rattle.runs.proofs.Planning.{Searching}
use Rattle.runs.proofs.plans.search.Given as goal

abbrev pub invariant-loop-left : goal.invariant-loop-left
invariant-loop-left l = Searching l.meta l.count l.total l.frontier l.pages l.best l.left

abbrev pub decreases-loop-left : goal.decreases-loop-left
decreases-loop-left l = l.left

abbrev pub invariant-loop-left-2 : goal.invariant-loop-left-2
invariant-loop-left-2 l = Searching l.meta l.count l.total l.frontier l.pages l.best l.left

abbrev pub decreases-loop-left-2 : goal.decreases-loop-left-2
decreases-loop-left-2 l = l.left
