use Rattle.witness.proofs.Witnessed.{medium_take_observed}
use Rattle.witness.proofs.take_calls.medium_take_blocks.Goals as goal

pub returns : goal.returns
returns c = search medium_take_observed
