use Rattle.vigbuso.proofs.PoolSteps.{answered}
use Rattle.vigbuso.proofs.pool_calls.vigbuso_trim.Goals as goal

pub returns : goal.returns
returns c = search answered
