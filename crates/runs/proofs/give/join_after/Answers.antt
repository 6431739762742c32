use Rattle.std.proofs.Common.{rules}
use Rattle.runs.proofs.give.join_after.Goals as goal

pub returns : goal.returns
returns c = (cc, search rules)
