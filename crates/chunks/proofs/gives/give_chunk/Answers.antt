use Rattle.chunks.proofs.GiveLaws.{give-none, give-page, give_in, give-one}
use Rattle.chunks.proofs.gives.give_chunk.Goals as goal

pub chunk_page-requires : goal.chunk_page-requires
chunk_page-requires c = search give-page

pub give-requires : goal.give-requires
give-requires c = search give_in

pub returns-then-fate-retired : goal.returns-then-fate-retired
returns-then-fate-retired c = search give-one

pub returns-else-fate-retired : goal.returns-else-fate-retired
returns-else-fate-retired c = search give-none
