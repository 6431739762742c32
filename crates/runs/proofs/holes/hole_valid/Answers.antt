use Rattle.facts.proofs.Prelude.{and_assoc}
use Rattle.runs.proofs.holes.hole_valid.Goals as goal

pub returns : goal.returns
returns c = simp and_assoc
