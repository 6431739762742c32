use Rattle.facts.proofs.Prelude.{◌≡◌, ◌≤◌}
use Rattle.runs.specs.way.Scan.{neighbours_at}
use Rattle.runs.proofs.Scanning.{fold_holes_from}
use Rattle.runs.proofs.holes.touch.Given as goal

abbrev pub invariant-loop-i : goal.invariant-loop-i
invariant-loop-i l = record { up_to : l.i ≤ l.count; same : l.found ≡ fold_holes_from (neighbours_at l.run) l.from l.count l.holes l.fn.behind l.i }

abbrev pub decreases-loop-i : goal.decreases-loop-i
decreases-loop-i l = l.i
