use Rattle.facts.proofs.Prelude.{◌≡◌, ◌≤◌}
use Rattle.runs.specs.way.Scan.{better_of}
use Rattle.runs.proofs.Scanning.{fold_holes_from}
use Rattle.runs.proofs.holes.scan.Given as goal

abbrev pub invariant-loop-i : goal.invariant-loop-i
invariant-loop-i l = record { up_to : l.i ≤ l.count; same : l.best ≡ fold_holes_from (better_of l.need) l.from l.count l.holes l.fn.behind l.i }

abbrev pub decreases-loop-i : goal.decreases-loop-i
decreases-loop-i l = l.i
