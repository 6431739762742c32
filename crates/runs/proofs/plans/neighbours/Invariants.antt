use Rattle.runs.specs.way.Scan.{no_neighbours, neighbours_at}
use Rattle.runs.proofs.Planning.{ScanSoFar}
use Rattle.runs.proofs.plans.neighbours.Given as goal

abbrev pub invariant-loop-left : goal.invariant-loop-left
invariant-loop-left l = ScanSoFar (neighbours_at l.run) no_neighbours l.meta l.count l.sides l.left

abbrev pub decreases-loop-left : goal.decreases-loop-left
decreases-loop-left l = l.left

abbrev pub invariant-loop-left-2 : goal.invariant-loop-left-2
invariant-loop-left-2 l = ScanSoFar (neighbours_at l.run) no_neighbours l.meta l.count l.sides l.left

abbrev pub decreases-loop-left-2 : goal.decreases-loop-left-2
decreases-loop-left-2 l = l.left
