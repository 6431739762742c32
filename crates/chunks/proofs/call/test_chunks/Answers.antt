use Rattle.std.proofs.lemmas.Result.{err_from_is_err_and}
use Rattle.chunks.proofs.CallSteps.{refused, settle-pre, settled}
use Rattle.chunks.proofs.call.test_chunks.Goals as goal

pub returns-in_err-take_listed : goal.returns-in_err-take_listed
returns-in_err-take_listed c =
    let p = err_from_is_err_and c.from_residual.result c.from_residual.ensures.1 in rw (p.1, p.2) (search (refused, c.in_err-take_listed.ensures))

pub settle_chunks-requires : goal.settle_chunks-requires
settle_chunks-requires c = search (settle-pre, c.in_ok-take_listed.ensures)

pub returns : goal.returns
returns c = search (settled, c.in_ok-take_listed.ensures)
