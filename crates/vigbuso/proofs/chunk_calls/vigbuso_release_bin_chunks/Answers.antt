use Rattle.vigbuso.proofs.ChunkSteps.{chunks-pre, chunks-goes, chunks-unfit}
use Rattle.vigbuso.proofs.FaultSteps.{numbered}
use Rattle.vigbuso.proofs.chunk_calls.vigbuso_release_bin_chunks.Goals as goal

pub returns-in-Err : goal.returns-in-Err
returns-in-Err c = rw c.number.ensures (search (chunks-unfit, numbered, c.in-Err.ensures.fault))

pub release_chunks-requires : goal.release_chunks-requires
release_chunks-requires c = search (chunks-pre, c.in-Ok.ensures.fault, c.in-Ok.ensures.value)

pub returns : goal.returns
returns c = rw c.code_of.ensures (search (chunks-goes, c.in-Ok.ensures.fault, c.in-Ok.ensures.value))
