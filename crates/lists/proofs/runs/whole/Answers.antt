use Rattle.facts.proofs.Prelude.{arith}
use Rattle.std.proofs.lemmas.Grind.{common_steps}
use Rattle.pages.specs.Runs.{whole}
use Rattle.lists.proofs.runs.whole.Goals as goal

pub returns-then-q-shape : goal.returns-then-q-shape
unfolding whole
returns-then-q-shape c = grind (arith, common_steps)

pub returns-else-q-shape : goal.returns-else-q-shape
unfolding whole
returns-else-q-shape c = grind (arith, common_steps)
