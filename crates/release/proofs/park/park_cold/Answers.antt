use Rattle.release.proofs.ParkSteps.{cold-there, parked-cold}
use Rattle.release.proofs.park.park_cold.Goals as goal

pub park_run-requires : goal.park_run-requires
park_run-requires c = search cold-there

pub returns : goal.returns
returns c = search parked-cold
