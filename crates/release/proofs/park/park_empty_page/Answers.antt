use Rattle.release.proofs.ParkSteps.{store-pre, parked-at}
use Rattle.release.proofs.park.park_empty_page.Goals as goal

pub park_at_destination-requires : goal.park_at_destination-requires
park_at_destination-requires c = search store-pre

pub returns : goal.returns
returns c = search parked-at
