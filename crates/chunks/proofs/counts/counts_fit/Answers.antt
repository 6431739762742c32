use Rattle.chunks.proofs.CountSteps.{fits-at, fit-stops, fit-ends}
use Rattle.chunks.proofs.counts.counts_fit.Goals as goal

pub chunk_fits-requires : goal.chunk_fits-requires
chunk_fits-requires c = search fits-at

pub returns-then-not-chunk_fits : goal.returns-then-not-chunk_fits
returns-then-not-chunk_fits c = search fit-stops

pub returns : goal.returns
returns c = search fit-ends
