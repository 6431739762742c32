use Rattle.take.proofs.FillSteps.{fill_starts, turn-pre, turn-written, turn-wanted, turn-some, fill_again, fill_done}
use Rattle.take.proofs.take_fill.fill_from_list.Goals as goal

pub loop-at-init : goal.loop-at-init
loop-at-init c = search fill_starts

pub fill_page-j-requires : goal.fill_page-j-requires
fill_page-j-requires c = search turn-pre

pub overflow_sub-at : goal.overflow_sub-at
overflow_sub-at c = search turn-written

pub overflow_sub-m : goal.overflow_sub-m
overflow_sub-m c = search turn-wanted

pub loop-at-smaller : goal.loop-at-smaller
loop-at-smaller c = search turn-some

pub loop-at-preserved : goal.loop-at-preserved
loop-at-preserved c = search fill_again

pub returns : goal.returns
returns c = search fill_done
