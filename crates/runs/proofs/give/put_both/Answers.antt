use Rattle.runs.proofs.RecordSteps.{both-last, both-moved}
use Rattle.runs.proofs.give.put_both.Goals as goal

pub returns-then-i-a : goal.returns-then-i-a
returns-then-i-a c = search both-last

pub returns : goal.returns
returns c = search both-moved
