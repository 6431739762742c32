use Rattle.runs.proofs.ActSteps.{given-fresh, given_reuse}
use Rattle.runs.proofs.give.give_run.Goals as goal

pub returns-then-run : goal.returns-then-run
returns-then-run c = search given-fresh

pub returns-else-run : goal.returns-else-run
returns-else-run c = search given_reuse
