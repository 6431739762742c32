use Rattle.release.proofs.ReleaseSteps.{some-listed, try_no_run, try_pre, try_all, try_not}
use Rattle.release.proofs.release.try_list.Goals as goal

pub bounds-list-0 : goal.bounds-list-0
bounds-list-0 c = search some-listed

pub returns-in_err-q : goal.returns-in_err-q
returns-in_err-q c = rw c.from_residual.ensures (search (try_no_run, c.in_err-q.ensures))

pub mark_all-requires : goal.mark_all-requires
mark_all-requires c = search (try_pre, c.in_ok-q.ensures)

pub returns-then-mark_all : goal.returns-then-mark_all
returns-then-mark_all c = search (try_all, c.in_ok-q.ensures)

pub returns-else-mark_all : goal.returns-else-mark_all
returns-else-mark_all c = search (try_not, c.in_ok-q.ensures)
