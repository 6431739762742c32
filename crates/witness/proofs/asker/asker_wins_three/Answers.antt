use Rattle.witness.proofs.Witnessed.{three-observed}
use Rattle.witness.proofs.asker.asker_wins_three.Goals as goal

pub returns : goal.returns
returns c = search three-observed
