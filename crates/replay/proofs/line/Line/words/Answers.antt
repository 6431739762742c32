use Rattle.std.proofs.Common.{arith}
use Rattle.replay.specs.way.Line as way
use Rattle.replay.proofs.Words.{one_more}
use Rattle.replay.proofs.line.Line.words.Goals as goal

pub loop-i-preserved : goal.loop-i-preserved
loop-i-preserved c = one_more way.low _ _ _ _ _ (omega arith) (omega arith) c.loop-i.invariant c.low.ensures
