use Rattle.runs.proofs.ActSteps.{state-stays, state-ready, state-off}
use Rattle.runs.proofs.act.next_state.Goals as goal

pub returns-then-state-ne0 : goal.returns-then-state-ne0
returns-then-state-ne0 c = search state-stays

pub returns-then-reservation_granted : goal.returns-then-reservation_granted
returns-then-reservation_granted c = search state-ready

pub returns : goal.returns
returns c = search state-off
