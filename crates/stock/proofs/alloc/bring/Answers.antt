use Rattle.stock.proofs.AllocSteps.{bring-none, others-pre, bring-last}
use Rattle.std.proofs.Common.{rules}
use Rattle.stock.proofs.alloc.bring.Goals as goal

pub returns-in_default : goal.returns-in_default
returns-in_default c = search (bring-none, c.in_default.ensures.cases)

pub put_all-requires : goal.put_all-requires
put_all-requires c = record { pool_pre = search rules; list_pre = search (others-pre, c.in-Some.ensures.cases) }

pub returns : goal.returns
returns c = search (bring-last, c.in-Some.ensures.cases)
