use Rattle.stock.proofs.TopSteps.{ends-early}
use Rattle.stock.proofs.top.ends_within.Goals as goal

pub returns-then-start-end : goal.returns-then-start-end
returns-then-start-end c = search ends-early
