use Rattle.std.proofs.Common.{rules}
use Rattle.runs.proofs.ActSteps.{none-drawn, plan-hole, hole-drawn-at, at-none, at_hole}
use Rattle.runs.proofs.act.commit_drawn.Goals as goal

pub from_frontier-requires : goal.from_frontier-requires
from_frontier-requires c = (search rules, search rules, λ _ _. search rules)

pub returns-in-None : goal.returns-in-None
returns-in-None c = search (none-drawn, at-none)

pub from_hole-requires : goal.from_hole-requires
from_hole-requires c = (search rules, search rules, search plan-hole, search rules)

pub returns-in-Some : goal.returns-in-Some
returns-in-Some c = search (hole-drawn-at, at_hole)
