use Rattle.chunks.proofs.ValidSteps.{with_destination-pre, count-one, count_none}
use Rattle.chunks.proofs.valid.count_chunk.Goals as goal

pub with-requires : goal.with-requires
with-requires c = search with_destination-pre

pub returns-then-returns_all : goal.returns-then-returns_all
returns-then-returns_all c = search count-one

pub returns : goal.returns
returns c = search count_none
