use Rattle.std.proofs.lemmas.Result.{err_from_is_err_and}
use Rattle.words.proofs.Refusals.{positive}
use Rattle.vigbuso.proofs.ReleaseSteps.{release-id, release-pre, release-goes, release-unfit}
use Rattle.vigbuso.proofs.release_calls.release_on.Goals as goal

pub returns-in_err-size : goal.returns-in_err-size
returns-in_err-size c =
    let p = err_from_is_err_and c.from_residual.result c.from_residual.ensures.1 in rw (p.1, p.2) (release-unfit _ _ _ _ _ _ _ c.in_err-size.ensures.fault (positive _))

pub overflow_add-low : goal.overflow_add-low
overflow_add-low c = search (release-id, c.in_ok-size.ensures.fault)

pub release_blocks-requires : goal.release_blocks-requires
release_blocks-requires c = search (release-pre, c.in_ok-size.ensures.fault, c.in_ok-size.ensures.value)

pub returns : goal.returns
returns c = search (release-goes, c.in_ok-size.ensures.fault, c.in_ok-size.ensures.value)
