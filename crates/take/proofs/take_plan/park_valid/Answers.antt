use Rattle.facts.proofs.Prelude.{arith}
use Rattle.std.proofs.lemmas.Grind.{common_steps}
use Rattle.calls.specs.Take.{park_valid}
use Rattle.take.proofs.take_plan.park_valid.Goals as goal

pub returns-then-page_sound : goal.returns-then-page_sound
unfolding park_valid
returns-then-page_sound c = grind (arith, common_steps)

pub returns-else-page_sound : goal.returns-else-page_sound
unfolding park_valid
returns-else-page_sound c = grind (arith, common_steps)
