use Rattle.stock.proofs.OutSteps.{page-past, page-other, page-own}
use Rattle.stock.proofs.out.is_run.Goals as goal

pub returns-then-p-get : goal.returns-then-p-get
returns-then-p-get c = search page-past

pub returns-then-get-id : goal.returns-then-get-id
returns-then-get-id c = search page-own

pub returns-else-get-id : goal.returns-else-get-id
returns-else-get-id c = search page-other
