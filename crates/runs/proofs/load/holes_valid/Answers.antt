use Rattle.runs.proofs.RecordSteps.{told-valid}
use Rattle.runs.proofs.load.holes_valid.Goals as goal

pub returns : goal.returns
returns c = search told-valid
