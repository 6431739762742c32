use Rattle.take.proofs.TakeParked.{parked-fails, parked-done, plan-there, plan-virgin}
use Rattle.take.proofs.take_plan.plan_parked.Goals as goal

pub returns-then-not-park_valid : goal.returns-then-not-park_valid
returns-then-not-park_valid c = search parked-fails

pub supply-requires : goal.supply-requires
supply-requires c = search plan-there

pub get-requires : goal.get-requires
get-requires c = search plan-virgin

pub returns : goal.returns
returns c = search parked-done
