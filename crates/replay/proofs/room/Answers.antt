use Rattle.replay.proofs.Zeros.{zeros}
use Rattle.replay.proofs.room.Goals as goal

pub returns : goal.returns
returns c = zeros 524288
