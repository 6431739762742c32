use Rattle.release.proofs.ValidSteps.{high-empty, limits-told}
use Rattle.release.proofs.valid.limits_valid.Goals as goal

pub returns-then-get-gt-MAX_PARKED : goal.returns-then-get-gt-MAX_PARKED
returns-then-get-gt-MAX_PARKED c = search high-empty

pub returns : goal.returns
returns c = search limits-told
