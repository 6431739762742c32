use Rattle.runs.proofs.Planning.{searches_start, part-again, part_no, one_again, one-no, searches_done, hole-none, hole-some}
use Rattle.runs.proofs.plans.search.Goals as goal

pub loop-left-init : goal.loop-left-init
loop-left-init c = search searches_start

pub returns-then-not-part_valid : goal.returns-then-not-part_valid
returns-then-not-part_valid c = search part_no

pub loop-left-preserved : goal.loop-left-preserved
loop-left-preserved c = search part-again

pub returns-then-not-hole_valid : goal.returns-then-not-hole_valid
returns-then-not-hole_valid c = search one-no

pub loop-left-2-preserved : goal.loop-left-2-preserved
loop-left-2-preserved c = search one_again

pub returns-in-0 : goal.returns-in-0
returns-in-0 c = search (searches_done, hole-none)

pub returns-in_default : goal.returns-in_default
returns-in_default c = search (searches_done, hole-some)
