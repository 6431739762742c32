use Rattle.facts.proofs.Prelude.{rules}
use Rattle.direct.proofs.FigureSteps.{parked-start, parked-next, sum_fits, parked-end, counts-at}
use Rattle.direct.proofs.figures.parked_pages.Goals as goal

pub loop-c-init : goal.loop-c-init
loop-c-init c = search parked-start

pub parked_of-sum-requires : goal.parked_of-sum-requires
parked_of-sum-requires c = (search rules, search counts-at)

pub overflow_add-sum : goal.overflow_add-sum
overflow_add-sum c = search sum_fits

pub loop-c-preserved : goal.loop-c-preserved
loop-c-preserved c = search parked-next

pub returns : goal.returns
returns c = search parked-end
