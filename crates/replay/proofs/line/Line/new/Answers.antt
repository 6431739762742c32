use Rattle.std.proofs.Common.{refl}
use Rattle.replay.specs.way.Line.{blank}
use Rattle.replay.proofs.line.Line.new.Goals as goal

pub returns : goal.returns
unfolding blank
returns c = refl
