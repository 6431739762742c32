use Rattle.release.proofs.ValidSteps.{far-partial, limits-last, no-cold, no-empty}
use Rattle.release.proofs.valid.row_valid.Goals as goal

pub returns-then-get : goal.returns-then-get
returns-then-get c = search far-partial

pub returns-then-store_valid-2 : goal.returns-then-store_valid-2
returns-then-store_valid-2 c = search limits-last

pub returns-else-store_valid-2 : goal.returns-else-store_valid-2
returns-else-store_valid-2 c = search no-cold

pub returns-else-store_valid : goal.returns-else-store_valid
returns-else-store_valid c = search no-empty
