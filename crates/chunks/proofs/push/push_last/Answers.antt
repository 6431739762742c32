use Rattle.chunks.proofs.PushRuns.{all-reach, last-page, last-alone, alone-done, last-pre, last_done}
use Rattle.chunks.proofs.push.push_last.Goals as goal

pub page_within-q-requires : goal.page_within-q-requires
page_within-q-requires c = search last-page

pub tail_on-k-requires : goal.tail_on-k-requires
tail_on-k-requires c = search all-reach

pub push_block-requires : goal.push_block-requires
push_block-requires c = search last-alone

pub returns-then-k-last : goal.returns-then-k-last
returns-then-k-last c = search alone-done

pub push_tail-requires : goal.push_tail-requires
push_tail-requires c = search last-pre

pub returns : goal.returns
returns c = search last_done
