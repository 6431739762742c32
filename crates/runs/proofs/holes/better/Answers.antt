use Rattle.runs.proofs.Least.{better_stays, better_goes}
use Rattle.runs.proofs.holes.better.Goals as goal

pub returns-then-best-key : goal.returns-then-best-key
returns-then-best-key c = search better_stays

pub returns : goal.returns
returns c = search better_goes
