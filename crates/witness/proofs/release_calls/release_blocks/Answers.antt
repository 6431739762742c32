use Rattle.witness.proofs.Witnessed.{release-observed}
use Rattle.witness.proofs.release_calls.release_blocks.Goals as goal

pub returns : goal.returns
returns c = search release-observed
