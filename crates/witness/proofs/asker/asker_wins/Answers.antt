use Rattle.witness.proofs.Witnessed.{game-observed}
use Rattle.witness.proofs.asker.asker_wins.Goals as goal

pub returns : goal.returns
returns c = search game-observed
