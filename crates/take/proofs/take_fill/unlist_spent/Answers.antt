use Rattle.take.proofs.FillSteps.{spent-stays, spent-leaves}
use Rattle.take.proofs.take_fill.unlist_spent.Goals as goal

pub returns-then-not-has_more : goal.returns-then-not-has_more
returns-then-not-has_more c = search spent-leaves

pub returns-else-not-has_more : goal.returns-else-not-has_more
returns-else-not-has_more c = search spent-stays
