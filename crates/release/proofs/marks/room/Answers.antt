use Rattle.release.proofs.StretchSteps.{room-up, room-down}
use Rattle.release.proofs.marks.room.Goals as goal

pub returns-then-up : goal.returns-then-up
returns-then-up c = search room-up

pub returns-else-up : goal.returns-else-up
returns-else-up c = search room-down
