use Rattle.stock.proofs.OutSteps.{small-sum, small-past, small-wide, small-between, small-found}
use Rattle.stock.proofs.out.small_at.Goals as goal

pub overflow_add-y : goal.overflow_add-y
overflow_add-y c = search small-sum

pub returns-then-y-shape-gt-ROOM : goal.returns-then-y-shape-gt-ROOM
returns-then-y-shape-gt-ROOM c = search small-past

pub nonzero_rem-y-2 : goal.nonzero_rem-y-2
nonzero_rem-y-2 c = search small-wide

pub returns-then-y-shape-ne0 : goal.returns-then-y-shape-ne0
returns-then-y-shape-ne0 c = search small-between

pub nonzero_div-result : goal.nonzero_div-result
nonzero_div-result c = search small-wide

pub returns : goal.returns
returns c = search small-found
