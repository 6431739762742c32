use Rattle.chunks.proofs.NameSteps.{last_fits, tally-last, unname_starts, unname_goes_on, unname_ends}
use Rattle.chunks.proofs.naming.unname_chunks.Goals as goal

pub loop-i-init : goal.loop-i-init
loop-i-init c = search unname_starts

pub chunk_page-requires : goal.chunk_page-requires
chunk_page-requires c = search last_fits

pub set-requires : goal.set-requires
set-requires c = search tally-last

pub loop-i-preserved : goal.loop-i-preserved
loop-i-preserved c = search unname_goes_on

pub returns : goal.returns
returns c = search unname_ends
