use Rattle.direct.proofs.FigureSteps.{runs_fit, parks-none, pages-fit, parks}
use Rattle.direct.proofs.figures.parked_of.Goals as goal

pub overflow_add-runs : goal.overflow_add-runs
overflow_add-runs c = search runs_fit

pub returns-then-runs-eq0 : goal.returns-then-runs-eq0
returns-then-runs-eq0 c = search parks-none

pub overflow_mul-result : goal.overflow_mul-result
overflow_mul-result c = search pages-fit

pub returns : goal.returns
returns c = search parks
