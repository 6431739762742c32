use borrow.Author.Rules.{rules}
use Rattle.chunks.proofs.PushLaws.{pushing-none, pushing-done}
use Rattle.chunks.proofs.PushRuns.{first-long, with-pre, with-more, with-less}
use Rattle.chunks.proofs.push.push_blocks.Goals as goal

pub loop-i-init : goal.loop-i-init
loop-i-init c = search pushing-none

pub slice_bounds-push_last-end : goal.slice_bounds-push_last-end
slice_bounds-push_last-end c = search (rules, first-long)

pub push_last-i-requires : goal.push_last-i-requires
push_last-i-requires c = search with-pre

pub loop-i-smaller : goal.loop-i-smaller
loop-i-smaller c = search with-less

pub loop-i-preserved : goal.loop-i-preserved
loop-i-preserved c = search with-more

pub returns : goal.returns
returns c = search pushing-done
