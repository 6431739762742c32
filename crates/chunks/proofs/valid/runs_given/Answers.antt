use Rattle.chunks.proofs.ValidSteps.{counting_none, counting_pre, counting_more, counting_done}
use Rattle.chunks.proofs.valid.runs_given.Goals as goal

pub loop-chunk-init : goal.loop-chunk-init
loop-chunk-init c = search counting_none

pub count_chunk-s-requires : goal.count_chunk-s-requires
count_chunk-s-requires c = search counting_pre

pub loop-chunk-preserved : goal.loop-chunk-preserved
loop-chunk-preserved c = search counting_more

pub returns : goal.returns
returns c = search counting_done
