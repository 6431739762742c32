use Rattle.facts.proofs.Prelude.{arith}
use Rattle.std.proofs.lemmas.Grind.{common_steps}
use Rattle.calls.specs.Take.{page_ready}
use Rattle.take.proofs.take_plan.page_ready.Goals as goal

pub returns-then-get-l : goal.returns-then-get-l
unfolding page_ready
returns-then-get-l c = grind (arith, common_steps)

pub returns-else-get-l : goal.returns-else-get-l
unfolding page_ready
returns-else-get-l c = grind (arith, common_steps)
