use Rattle.chunks.proofs.MarkSteps.{sweep-starts, sweep-fits, sweep-pre, sweep-goes_on, sweep-ends}
use Rattle.chunks.proofs.marks.take_pages.Goals as goal

pub loop-chunk-init : goal.loop-chunk-init
loop-chunk-init c = search sweep-starts

pub chunk_page-requires : goal.chunk_page-requires
chunk_page-requires c = search sweep-fits

pub take_marks-requires : goal.take_marks-requires
take_marks-requires c = search sweep-pre

pub loop-chunk-preserved : goal.loop-chunk-preserved
loop-chunk-preserved c = search sweep-goes_on

pub returns : goal.returns
returns c = search sweep-ends
