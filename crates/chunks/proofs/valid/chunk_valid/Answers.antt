use Rattle.chunks.proofs.ValidSteps.{chunk-is}
use Rattle.chunks.proofs.valid.chunk_valid.Goals as goal

pub returns : goal.returns
returns c = search chunk-is
