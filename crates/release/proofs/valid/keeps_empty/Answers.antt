use Rattle.release.proofs.ValidSteps.{many-empty, destination-fits, pages-left}
use Rattle.release.proofs.valid.keeps_empty.Goals as goal

pub returns-then-empties-limits : goal.returns-then-empties-limits
returns-then-empties-limits c = search many-empty

pub overflow_mul-result : goal.overflow_mul-result
overflow_mul-result c = search destination-fits

pub returns : goal.returns
returns c = search pages-left
