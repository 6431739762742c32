use Rattle.vigbuso.proofs.PoolSteps.{freed}
use Rattle.vigbuso.proofs.pool_calls.vigbuso_free.Goals as goal

pub returns : goal.returns
returns c = search freed
