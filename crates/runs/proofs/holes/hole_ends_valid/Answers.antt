use Rattle.std.proofs.Common.{arith}
use Rattle.runs.proofs.Touching.{ends-valid}
use Rattle.runs.proofs.holes.hole_ends_valid.Goals as goal

pub returns : goal.returns
returns c = ends-valid c.args.h c.args.frontier _ _ (omega arith) (omega arith) (omega arith) (omega arith) (omega arith) (omega arith) (omega arith)
