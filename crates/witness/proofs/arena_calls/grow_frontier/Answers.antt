use Rattle.witness.proofs.Witnessed.{grow-observed}
use Rattle.witness.proofs.arena_calls.grow_frontier.Goals as goal

pub returns : goal.returns
returns c = search grow-observed
