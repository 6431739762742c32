use Rattle.facts.proofs.Prelude.{arith}
use Rattle.std.proofs.lemmas.Grind.{common_steps}
use Rattle.take.specs.way.TakePlan.{share}
use Rattle.take.proofs.PlanSteps.{sound-supply}
use Rattle.take.proofs.take_plan.share.Goals as goal

pub supply-requires : goal.supply-requires
supply-requires c = search sound-supply

pub returns-then-page_sound : goal.returns-then-page_sound
unfolding share
returns-then-page_sound c = grind (arith, common_steps)

pub returns : goal.returns
unfolding share
returns c = grind (arith, common_steps)
