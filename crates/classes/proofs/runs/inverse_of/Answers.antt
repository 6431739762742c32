use Rattle.facts.proofs.Prelude.{ap, ◌+◌}
use Rattle.classes.specs.Shape.{inverse}
use Rattle.classes.proofs.runs.inverse_of.Goals as goal

pub returns : goal.returns
unfolding inverse
returns c = ap (λ q. q + 1) c.from.ensures
