use Rattle.std.proofs.lemmas.Result.{err_from_is_err_and}
use Rattle.vigbuso.proofs.FaultSteps.{numbered, id_fits}
use Rattle.vigbuso.proofs.TakeSteps.{take-pre, take-goes, take-unfit}
use Rattle.vigbuso.proofs.take_calls.take_on.Goals as goal

pub returns-in_err-size : goal.returns-in_err-size
returns-in_err-size c =
    let p = err_from_is_err_and c.from_residual.result c.from_residual.ensures.1 in rw (p.1, p.2) (take-unfit _ _ _ _ _ c.in_err-size.ensures.fault _ _ _ _ (numbered _))

pub overflow_add-low : goal.overflow_add-low
overflow_add-low c = search (id_fits, c.in_ok-size.ensures.fault)

pub take_into-requires : goal.take_into-requires
take_into-requires c = search (take-pre, c.in_ok-size.ensures.fault, c.in_ok-size.ensures.value)

pub returns : goal.returns
returns c = search (take-goes, c.in_ok-size.ensures.fault, c.in_ok-size.ensures.value)
