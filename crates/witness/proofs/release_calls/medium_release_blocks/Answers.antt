use Rattle.witness.proofs.Witnessed.{medium_release_observed}
use Rattle.witness.proofs.release_calls.medium_release_blocks.Goals as goal

pub returns : goal.returns
returns c = search medium_release_observed
