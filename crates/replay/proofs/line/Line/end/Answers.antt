use Rattle.replay.specs.way.Line.{ended}
use Rattle.replay.proofs.line.Line.end.Goals as goal

pub returns : goal.returns
unfolding ended
returns c = c.put.ensures
