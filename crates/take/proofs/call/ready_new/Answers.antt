use Rattle.std.proofs.lemmas.Result.{err_from_is_err_and}
use Rattle.runs.proofs.Told.{told-run, told-none}
use Rattle.take.proofs.TakeSteps.{new-full, new-refused, new_none, new-runs, new-ready}
use Rattle.take.proofs.call.ready_new.Goals as goal

pub returns-then-exceeds : goal.returns-then-exceeds
returns-then-exceeds c = search new-full

pub returns-in_err-commit_for : goal.returns-in_err-commit_for
returns-in_err-commit_for c =
    let p = err_from_is_err_and c.from_residual.result c.from_residual.ensures.1 in
    let e = c.in_err-commit_for.ensures in
    rw (p.1, p.2) (search new-refused)

pub returns-in-None : goal.returns-in-None
returns-in-None c = let z = told-none _ _ c.in_ok-commit_for.was c.in-None.is in search new_none

pub ready_run-requires : goal.ready_run-requires
ready_run-requires c = let z = told-run _ _ c.in_ok-commit_for.was _ c.in-Some.is in search new-runs

pub returns-in-Some : goal.returns-in-Some
returns-in-Some c = let z = told-run _ _ c.in_ok-commit_for.was _ c.in-Some.is in search new-ready
