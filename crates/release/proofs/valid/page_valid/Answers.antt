use Rattle.release.proofs.ValidSteps.{no_header, no_flag, links-last}
use Rattle.release.proofs.valid.page_valid.Goals as goal

pub returns-then-get-le1 : goal.returns-then-get-le1
returns-then-get-le1 c = search links-last

pub returns-else-get-le1 : goal.returns-else-get-le1
returns-else-get-le1 c = search no_flag

pub returns-else-header_valid : goal.returns-else-header_valid
returns-else-header_valid c = search no_header
