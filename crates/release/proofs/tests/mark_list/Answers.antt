use Rattle.release.proofs.OutSteps.{pass-starts, pass-over, pass-goes_on, pass-stops, pass-ends, mark_has_now}
use Rattle.release.proofs.tests.mark_list.Goals as goal

pub loop-i-init : goal.loop-i-init
loop-i-init c = search pass-starts

pub loop-i-preserved-in_default : goal.loop-i-preserved-in_default
loop-i-preserved-in_default c = search (pass-over, c.in_default.ensures)

pub mark_block-requires : goal.mark_block-requires
mark_block-requires c = search (mark_has_now, c.in-Some.ensures)

pub returns-then-not-mark_block : goal.returns-then-not-mark_block
returns-then-not-mark_block c = search (pass-stops, c.in-Some.ensures)

pub loop-i-preserved : goal.loop-i-preserved
loop-i-preserved c = search (pass-goes_on, c.in-Some.ensures)

pub returns : goal.returns
returns c = search pass-ends
