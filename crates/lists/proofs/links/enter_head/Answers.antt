use Rattle.lists.proofs.ListSteps.{entered}
use Rattle.lists.proofs.links.enter_head.Goals as goal

pub returns : goal.returns
returns c =
    entered _ _ _ _ _ _ _ _ c.get-head.ensures c.set.ensures c.set-2.ensures c.set_prev_at.ensures c.set-3.ensures
