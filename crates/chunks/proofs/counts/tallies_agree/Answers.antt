use Rattle.chunks.proofs.CountSteps.{blocks-counted, page_missing}
use Rattle.chunks.proofs.counts.tallies_agree.Goals as goal

pub returns-then-count_blocks : goal.returns-then-count_blocks
returns-then-count_blocks c = search blocks-counted

pub returns-else-count_blocks : goal.returns-else-count_blocks
returns-else-count_blocks c = search page_missing
