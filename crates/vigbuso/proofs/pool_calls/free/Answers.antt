use Rattle.std.proofs.lemmas.Result.{err_from_is_err_and}
use Rattle.vigbuso.proofs.PoolSteps.{pool-pre, free-unfit, free-goes}
use Rattle.vigbuso.proofs.pool_calls.free.Goals as goal

pub returns-in_err-size : goal.returns-in_err-size
returns-in_err-size c = let p = err_from_is_err_and c.from_residual.result c.from_residual.ensures.1 in rw (p.1, p.2) (search (free-unfit, c.in_err-size.ensures.fault))

pub free-requires : goal.free-requires
free-requires c = search (pool-pre, c.in_ok-size.ensures.fault, c.in_ok-size.ensures.value)

pub returns : goal.returns
returns c = search (free-goes, c.in_ok-size.ensures.fault, c.in_ok-size.ensures.value)
