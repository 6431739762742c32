use Rattle.std.proofs.Common.{refl}
use Rattle.std.proofs.lemmas.Result.{err_from_is_err_and}
use Rattle.vigbuso.proofs.DirectSteps.{length-refused, rows_last, open_refused, open_done}
use Rattle.vigbuso.proofs.FaultSteps.{numbered}
use Rattle.vigbuso.proofs.arena_calls.open_book.Goals as goal

pub returns-in_err-check_length : goal.returns-in_err-check_length
returns-in_err-check_length c =
    let p = err_from_is_err_and c.from_residual.result c.from_residual.ensures.1 in
    rw (p.1, p.2) (open_refused _ _ _ _ (length-refused _ _ _ c.in_err-check_length.ensures _ (numbered _)) (numbered _))

pub returns-in_err-rows_fault : goal.returns-in_err-rows_fault
returns-in_err-rows_fault c =
    let p = err_from_is_err_and c.from_residual-in_err-rows_fault.result c.from_residual-in_err-rows_fault.ensures.1 in
    rw (p.1, p.2) (open_refused _ _ _ _ (rows_last _ _ _ c.in_ok-check_length.ensures _ _ _ refl refl c.in_err-rows_fault.ensures) (numbered _))

pub returns : goal.returns
returns c = open_done _ _ _ _ (rows_last _ _ _ c.in_ok-check_length.ensures _ _ _ refl refl c.in_ok-rows_fault.ensures) _ refl c.open.ensures
