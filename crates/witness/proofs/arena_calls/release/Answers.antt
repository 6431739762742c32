use Rattle.witness.proofs.Witnessed.{give-observed}
use Rattle.witness.proofs.arena_calls.release.Goals as goal

pub returns : goal.returns
returns c = search give-observed
