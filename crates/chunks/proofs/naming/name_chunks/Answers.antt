use Rattle.chunks.proofs.NameSteps.{page-fits, tally-there, name-starts, name-goes_on, name-ends}
use Rattle.chunks.proofs.naming.name_chunks.Goals as goal

pub loop-i-init : goal.loop-i-init
loop-i-init c = search name-starts

pub chunk_page-p-requires : goal.chunk_page-p-requires
chunk_page-p-requires c = search page-fits

pub get-requires : goal.get-requires
get-requires c = search tally-there

pub set-requires : goal.set-requires
set-requires c = search tally-there

pub loop-i-preserved : goal.loop-i-preserved
loop-i-preserved c = search name-goes_on

pub returns : goal.returns
returns c = search name-ends
