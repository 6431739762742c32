use Rattle.runs.proofs.ActSteps.{none-ends}
use Rattle.runs.proofs.act.end_none.Goals as goal

pub returns : goal.returns
returns c = search none-ends
