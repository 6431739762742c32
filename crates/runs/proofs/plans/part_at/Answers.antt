use Rattle.runs.proofs.Loading.{four_loaded}
use Rattle.runs.proofs.plans.part_at.Goals as goal

pub returns : goal.returns
returns c = search four_loaded
