use Rattle.trace.proofs.TakeWays.{now-takes}
use Rattle.trace.proofs.acts.take_now.Goals as goal

pub returns : goal.returns
returns c = search now-takes
