use Rattle.witness.proofs.Witnessed.{commit-observed}
use Rattle.witness.proofs.arena_calls.commit.Goals as goal

pub returns : goal.returns
returns c = search commit-observed
