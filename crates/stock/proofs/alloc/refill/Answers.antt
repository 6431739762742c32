use Rattle.std.proofs.lemmas.Result.{err_from_is_err_and}
use Rattle.stock.proofs.AllocSteps.{take-asks, took-fits, took-length, took-pre, refill-refused, refill-took}
use Rattle.std.proofs.Common.{rules}
use Rattle.stock.proofs.alloc.refill.Goals as goal

pub take_call-requires : goal.take_call-requires
take_call-requires c = search take-asks

pub slice_bounds-list-end : goal.slice_bounds-list-end
slice_bounds-list-end c = search (took-fits, c.in_ok-taken.was)

pub slice_bounds-bring-end : goal.slice_bounds-bring-end
slice_bounds-bring-end c = search (took-length, c.in_ok-taken.was)

pub bring-requires : goal.bring-requires
bring-requires c = record { pool_pre = search rules; list_pre = search (took-pre, c.in_ok-taken.was) }

pub returns-in_err-taken : goal.returns-in_err-taken
returns-in_err-taken c =
    let p = err_from_is_err_and c.from_residual.result c.from_residual.ensures.1 in rw (p.1, p.2) (search (refill-refused, c.in_err-taken.was))

pub returns : goal.returns
returns c = search (refill-took, c.in_ok-taken.was)
