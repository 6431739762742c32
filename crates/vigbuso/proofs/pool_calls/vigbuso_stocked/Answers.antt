use Rattle.vigbuso.proofs.PoolSteps.{stock-pre, stocked-is, stocked-no}
use Rattle.vigbuso.proofs.pool_calls.vigbuso_stocked.Goals as goal

pub stocked-requires : goal.stocked-requires
stocked-requires c = search stock-pre

pub returns-then-is_admitted : goal.returns-then-is_admitted
returns-then-is_admitted c = search stocked-is

pub returns : goal.returns
returns c = search stocked-no
