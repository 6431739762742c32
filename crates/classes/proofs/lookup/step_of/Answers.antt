use Rattle.facts.proofs.Prelude.{arith}
use Rattle.classes.proofs.NearFit.{step_of_32, step_of_512}
use Rattle.classes.proofs.lookup.step_of.Goals as goal

pub returns-then-size-le4096 : goal.returns-then-size-le4096
returns-then-size-le4096 c = step_of_32 _ _ (omega arith) (omega arith)

pub returns-else-size-le4096 : goal.returns-else-size-le4096
returns-else-size-le4096 c = step_of_512 _ _ (omega arith) (omega arith)
