use Rattle.std.proofs.lemmas.Result.{err_from_is_err_and}
use Rattle.release.proofs.ReleaseSteps.{bad_kind, fault-pre, faulted, passed-pre, passed_on}
use Rattle.release.proofs.release.test_list.Goals as goal

pub returns-then-not-all_of_kind : goal.returns-then-not-all_of_kind
returns-then-not-all_of_kind c = search bad_kind

pub out_fault-requires : goal.out_fault-requires
out_fault-requires c = search fault-pre

pub returns-in_err-out_fault : goal.returns-in_err-out_fault
returns-in_err-out_fault c =
    let p = err_from_is_err_and c.from_residual.result c.from_residual.ensures.1 in rw (p.1, p.2) (search (faulted, c.in_err-out_fault.ensures))

pub one_run-requires : goal.one_run-requires
one_run-requires c = search (passed-pre, c.in_ok-out_fault.ensures)

pub returns : goal.returns
returns c = search (passed_on, c.in_ok-out_fault.ensures)
