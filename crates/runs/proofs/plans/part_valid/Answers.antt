use Rattle.runs.proofs.Loading.{four-valid}
use Rattle.runs.proofs.plans.part_valid.Goals as goal

pub returns : goal.returns
returns c = search four-valid
