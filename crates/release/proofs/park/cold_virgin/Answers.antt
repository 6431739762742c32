use Rattle.release.proofs.ParkSteps.{span_not_virgin, page-virgin}
use Rattle.release.proofs.park.cold_virgin.Goals as goal

pub returns-then-shape-eq-MEDIUM : goal.returns-then-shape-eq-MEDIUM
returns-then-shape-eq-MEDIUM c = search span_not_virgin

pub returns : goal.returns
returns c = search page-virgin
