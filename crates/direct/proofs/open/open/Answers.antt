use Rattle.arena.specs.Open.{opened}
use Rattle.direct.proofs.open.open.Goals as goal

pub returns : goal.returns
unfolding opened
returns c = cc
