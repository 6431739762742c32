use Rattle.witness.proofs.Witnessed.{open_observed_lem}
use Rattle.witness.proofs.arena_calls.open.Goals as goal

pub returns : goal.returns
returns c = search open_observed_lem
