use Rattle.replay.proofs.Zeros.{zeros}
use Rattle.replay.proofs.book.Goals as goal

pub returns : goal.returns
returns c = zeros 1158464
