use Rattle.demands.proofs.Refusals.{size-answers}
use Rattle.witness.proofs.lookup.size_class.Goals as goal

pub returns : goal.returns
returns c = search size-answers
