use Rattle.stock.proofs.TopSteps.{top-over, top-past, top_within}
use Rattle.stock.proofs.top.top_valid.Goals as goal

pub returns-then-k-gt-COUNT_MAX : goal.returns-then-k-gt-COUNT_MAX
returns-then-k-gt-COUNT_MAX c = search top-over

pub returns-then-ends_within : goal.returns-then-ends_within
returns-then-ends_within c = search top_within

pub returns-else-ends_within : goal.returns-else-ends_within
returns-else-ends_within c = search top-past
