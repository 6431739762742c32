use Rattle.take.proofs.TakeSteps.{store-empty, store-cold}
use Rattle.take.proofs.take_plan.first_store.Goals as goal

pub returns-then-get-ne0 : goal.returns-then-get-ne0
returns-then-get-ne0 c = search store-empty

pub returns : goal.returns
returns c = search store-cold
