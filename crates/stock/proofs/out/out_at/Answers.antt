use Rattle.stock.proofs.GiveSteps.{class-pre}
use Rattle.stock.proofs.OutSteps.{out-is_some}
use Rattle.stock.proofs.out.out_at.Goals as goal

pub find_out-requires : goal.find_out-requires
find_out-requires c = search class-pre

pub returns : goal.returns
returns c = search out-is_some
