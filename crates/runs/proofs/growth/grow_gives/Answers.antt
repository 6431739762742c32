use Rattle.runs.proofs.GiveSteps.{gives-granted, gives-elsewhere, gives-there}
use Rattle.runs.proofs.growth.grow_gives.Goals as goal

pub returns-then-commit_granted : goal.returns-then-commit_granted
returns-then-commit_granted c = search gives-granted

pub returns-then-get-end : goal.returns-then-get-end
returns-then-get-end c = search gives-elsewhere

pub returns : goal.returns
returns c = search gives-there
