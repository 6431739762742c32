use Rattle.witness.proofs.Witnessed.{contains-observed}
use Rattle.witness.proofs.arena_calls.contains.Goals as goal

pub returns : goal.returns
returns c = search contains-observed
