use Rattle.lists.proofs.CarveSteps.{push_range_pre, carve-done}
use Rattle.lists.proofs.carve.carve_anew.Goals as goal

pub push_range-requires : goal.push_range-requires
push_range-requires c = search push_range_pre

pub returns : goal.returns
returns c = search carve-done
