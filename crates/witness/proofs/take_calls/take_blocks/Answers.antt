use Rattle.witness.proofs.Witnessed.{take-observed}
use Rattle.witness.proofs.take_calls.take_blocks.Goals as goal

pub returns : goal.returns
returns c = search take-observed
