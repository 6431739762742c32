use Rattle.chunks.proofs.PlaceSteps.{place-starts, turn-page, turn-pre, fate-place, turn-goes_on, place-ends}
use Rattle.chunks.proofs.place.place_chunks.Goals as goal

pub loop-i-init : goal.loop-i-init
loop-i-init c = search place-starts

pub chunk_page-requires : goal.chunk_page-requires
chunk_page-requires c = search turn-page

pub place_chunk-requires : goal.place_chunk-requires
place_chunk-requires c = search turn-pre

pub bounds-fates-i : goal.bounds-fates-i
bounds-fates-i c = search fate-place

pub loop-i-preserved : goal.loop-i-preserved
loop-i-preserved c = search turn-goes_on

pub returns : goal.returns
returns c = search place-ends
