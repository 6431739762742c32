use Rattle.chunks.proofs.PushLaws.{clearing_none, clearing_pre, clearing_more, clearing_done}
use Rattle.chunks.proofs.push.take_blocks.Goals as goal

pub loop-w-init : goal.loop-w-init
loop-w-init c = search clearing_none

pub take_block-requires : goal.take_block-requires
take_block-requires c = search clearing_pre

pub loop-w-preserved : goal.loop-w-preserved
loop-w-preserved c = search clearing_more

pub returns : goal.returns
returns c = search clearing_done
