use Rattle.model.specs.Heap.{bad_run}
use Rattle.direct.proofs.CallSteps.{bad-long}
use Rattle.direct.proofs.calls.bad_run.Goals as goal

pub returns-then-pages-eq0 : goal.returns-then-pages-eq0
unfolding bad_run
returns-then-pages-eq0 c = rw c.if-pages-eq0.true

pub returns-else-pages-eq0 : goal.returns-else-pages-eq0
returns-else-pages-eq0 c = search bad-long
