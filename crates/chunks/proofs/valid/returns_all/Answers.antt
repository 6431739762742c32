use Rattle.chunks.proofs.ValidSteps.{returns-page, out-fits, returns_is}
use Rattle.chunks.proofs.valid.returns_all.Goals as goal

pub chunk_page-q-requires : goal.chunk_page-q-requires
chunk_page-q-requires c = search returns-page

pub overflow_sub-out : goal.overflow_sub-out
overflow_sub-out c = search out-fits

pub returns : goal.returns
returns c = search returns_is
