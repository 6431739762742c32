use Rattle.std.proofs.Common.{rules, tests}
use Rattle.std.proofs.lemmas.Result.{err_from_is_err_and}
use Rattle.release.proofs.ReleaseSteps.{none-listed, list-pre, told-no, finish-told, finished-told}
use Rattle.release.proofs.release.release_shaped.Goals as goal

pub returns-then-is_empty : goal.returns-then-is_empty
returns-then-is_empty c = search (rules, tests, none-listed)

pub prepare-requires : goal.prepare-requires
prepare-requires c = search (rules, tests, list-pre)

pub returns-in_err-marked : goal.returns-in_err-marked
returns-in_err-marked c =
    let p = err_from_is_err_and c.from_residual.result c.from_residual.ensures.1 in rw (p.1, p.2) (search (told-no, c.in_err-marked.ensures))

pub finish-requires : goal.finish-requires
finish-requires c = search (finish-told, c.in_ok-marked.ensures)

pub returns : goal.returns
returns c = search (finished-told, c.in_ok-marked.ensures)
