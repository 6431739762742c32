use Rattle.facts.proofs.Prelude.{arith}
use Rattle.std.proofs.lemmas.Grind.{common_steps}
use Rattle.pages.specs.Valid.{header_valid}
use Rattle.lists.proofs.valid.header_valid.Goals as goal

pub returns-then-m-carved : goal.returns-then-m-carved
unfolding header_valid
returns-then-m-carved c = grind (arith, common_steps)

pub returns-else-m-carved : goal.returns-else-m-carved
unfolding header_valid
returns-else-m-carved c = grind (arith, common_steps)
