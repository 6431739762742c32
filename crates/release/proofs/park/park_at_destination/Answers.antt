use Rattle.release.proofs.ParkSteps.{empty-there, cold-pre, goes-empty, goes-cold, goes_on}
use Rattle.release.proofs.park.park_at_destination.Goals as goal

pub park_run-requires : goal.park_run-requires
park_run-requires c = search empty-there

pub park_cold-requires : goal.park_cold-requires
park_cold-requires c = search cold-pre

pub returns-in-ToEmpty : goal.returns-in-ToEmpty
returns-in-ToEmpty c = search goes-empty

pub returns-in-ToCold : goal.returns-in-ToCold
returns-in-ToCold c = search goes-cold

pub returns-in-ToArena : goal.returns-in-ToArena
returns-in-ToArena c = search goes_on
