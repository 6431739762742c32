use Rattle.witness.proofs.Witnessed.{chunks-observed}
use Rattle.witness.proofs.chunk_calls.release_bin_chunks.Goals as goal

pub returns : goal.returns
returns c = search chunks-observed
