use Rattle.chunks.proofs.PlaceSteps.{place-pre, goes-retired, head-pre, goes-partial}
use Rattle.chunks.proofs.place.place_chunk.Goals as goal

pub park_empty_page-requires : goal.park_empty_page-requires
park_empty_page-requires c = search place-pre

pub returns-then-get : goal.returns-then-get
returns-then-get c = search goes-retired

pub relist-requires : goal.relist-requires
relist-requires c = search head-pre

pub returns : goal.returns
returns c = search goes-partial
