use Rattle.runs.proofs.RecordSteps.{appends-not, appends}
use Rattle.runs.proofs.give.append.Goals as goal

pub returns-then-a-ge-HOLE_SLOTS : goal.returns-then-a-ge-HOLE_SLOTS
returns-then-a-ge-HOLE_SLOTS c = search appends-not

pub returns : goal.returns
returns c = search appends
