use Rattle.stock.proofs.TopSteps.{kind-small, kind-medium}
use Rattle.stock.proofs.top.kind_of.Goals as goal

pub returns-then-c-lt64 : goal.returns-then-c-lt64
returns-then-c-lt64 c = search kind-small

pub returns-else-c-lt64 : goal.returns-else-c-lt64
returns-else-c-lt64 c = search kind-medium
