use Rattle.runs.proofs.ActSteps.{draws-cut, draws-used}
use Rattle.runs.proofs.act.draw.Goals as goal

pub returns-then-pages-x : goal.returns-then-pages-x
returns-then-pages-x c = search draws-cut

pub returns : goal.returns
returns c = search draws-used
