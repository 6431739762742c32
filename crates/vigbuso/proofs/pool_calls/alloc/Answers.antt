use Rattle.std.proofs.lemmas.Result.{err_from_is_err_and}
use Rattle.vigbuso.proofs.PoolSteps.{pool-pre, alloc-unfit, alloc_goes}
use Rattle.vigbuso.proofs.pool_calls.alloc.Goals as goal

pub returns-in_err-size : goal.returns-in_err-size
returns-in_err-size c = let p = err_from_is_err_and c.from_residual.result c.from_residual.ensures.1 in rw (p.1, p.2) (search (alloc-unfit, c.in_err-size.ensures.fault))

pub alloc-requires : goal.alloc-requires
alloc-requires c = search (pool-pre, c.in_ok-size.ensures.fault, c.in_ok-size.ensures.value)

pub returns : goal.returns
returns c = search (alloc_goes, c.in_ok-size.ensures.fault, c.in_ok-size.ensures.value)
