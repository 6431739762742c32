use Rattle.stock.proofs.FreeSteps.{free-far, free-near}
use Rattle.stock.proofs.free.free.Goals as goal

pub returns-then-x-from : goal.returns-then-x-from
returns-then-x-from c = search free-far

pub take_back-requires : goal.take_back-requires
take_back-requires c = search free-near
