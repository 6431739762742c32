use Rattle.release.proofs.EverySteps.{page-fits, first-there, start-told}
use Rattle.release.proofs.release.starts_at.Goals as goal

pub page_within-requires : goal.page_within-requires
page_within-requires c = search page-fits

pub get-requires : goal.get-requires
get-requires c = search first-there

pub returns : goal.returns
returns c = search start-told
