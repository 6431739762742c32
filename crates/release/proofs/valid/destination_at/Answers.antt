use Rattle.release.proofs.ValidSteps.{empties-low, destination-there}
use Rattle.std.proofs.Common.{rules}
use Rattle.release.proofs.valid.destination_at.Goals as goal

pub destination_of-requires : goal.destination_of-requires
destination_of-requires c = record { sound = search rules; empties_le_max_parked = search empties-low }

pub returns : goal.returns
returns c = search destination-there
