use Rattle.lists.proofs.ListSteps.{point_next-none, point_next-some}
use Rattle.lists.proofs.links.point_next.Goals as goal

pub returns-then-code-eq0 : goal.returns-then-code-eq0
returns-then-code-eq0 c = search point_next-none

pub returns-else-code-eq0 : goal.returns-else-code-eq0
returns-else-code-eq0 c = search point_next-some
