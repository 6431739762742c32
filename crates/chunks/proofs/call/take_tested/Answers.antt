use Rattle.std.proofs.lemmas.Result.{err_from_is_err_and}
use Rattle.chunks.proofs.CallSteps.{fault-pre, faulted, pass-pre, passed_on}
use Rattle.chunks.proofs.call.take_tested.Goals as goal

pub out_fault-requires : goal.out_fault-requires
out_fault-requires c = search fault-pre

pub returns-in_err-out_fault : goal.returns-in_err-out_fault
returns-in_err-out_fault c =
    let p = err_from_is_err_and c.from_residual.result c.from_residual.ensures.1 in rw (p.1, p.2) (search (faulted, c.in_err-out_fault.ensures))

pub pass_chunks-requires : goal.pass_chunks-requires
pass_chunks-requires c = search (pass-pre, c.in_ok-out_fault.ensures)

pub returns : goal.returns
returns c = search (passed_on, c.in_ok-out_fault.ensures)
