use Rattle.chunks.proofs.PushLaws.{take-page, take-index, take_own, take-there, take_done}
use Rattle.chunks.proofs.push.take_block.Goals as goal

pub page_within-q-requires : goal.page_within-q-requires
page_within-q-requires c = search take-page

pub index_of-requires : goal.index_of-requires
index_of-requires c = record { index_pre = search take-index; w_value = search take_own }

pub set_bit-requires : goal.set_bit-requires
set_bit-requires c = search take-there

pub returns : goal.returns
returns c = search take_done
