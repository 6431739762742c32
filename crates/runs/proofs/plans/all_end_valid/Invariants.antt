use Rattle.facts.proofs.Prelude.{true}
use Rattle.runs.proofs.Touching.{valid_at}
use Rattle.runs.proofs.Planning.{ScanSoFar}
use Rattle.runs.proofs.plans.all_end_valid.Given as goal

abbrev pub invariant-loop-left : goal.invariant-loop-left
invariant-loop-left l = ScanSoFar (valid_at l.frontier) true l.meta l.count l.valid l.left

abbrev pub decreases-loop-left : goal.decreases-loop-left
decreases-loop-left l = l.left
