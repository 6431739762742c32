use Rattle.release.proofs.OutSteps.{clears_start, clears_over, clears_one, clears_end, mark_has_now}
use Rattle.release.proofs.tests.clear_list.Goals as goal

pub loop-w-init : goal.loop-w-init
loop-w-init c = search clears_start

pub loop-w-preserved-in_default : goal.loop-w-preserved-in_default
loop-w-preserved-in_default c = search (clears_over, c.in_default.ensures)

pub set_word-requires : goal.set_word-requires
set_word-requires c = search (mark_has_now, c.in-Some.ensures)

pub loop-w-preserved : goal.loop-w-preserved
loop-w-preserved c = search (clears_one, c.in-Some.ensures)

pub returns : goal.returns
returns c = search clears_end
