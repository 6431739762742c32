use Rattle.chunks.proofs.PushRuns.{one_index, one_block, one-slot, one-fits, one-done}
use Rattle.chunks.proofs.push.push_block.Goals as goal

pub index_of-requires : goal.index_of-requires
index_of-requires c = record { index_pre = search one_index; w_value = search one_block }

pub set_entry-requires : goal.set_entry-requires
set_entry-requires c = search one-slot

pub overflow_add-top : goal.overflow_add-top
overflow_add-top c = search one-fits

pub returns : goal.returns
returns c = search one-done
