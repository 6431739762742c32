use Rattle.release.proofs.RunSteps.{past-arena, past-frontier, past-page, past-run, in_run_lem, not-whole}
use Rattle.release.proofs.blocks.run_of.Goals as goal

pub returns-then-page-n : goal.returns-then-page-n
returns-then-page-n c = search past-arena

pub returns-then-p-get : goal.returns-then-p-get
returns-then-p-get c = search past-frontier

pub returns-then-q-p : goal.returns-then-q-p
returns-then-q-p c = search past-page

pub returns-then-p-q : goal.returns-then-p-q
returns-then-p-q c = search past-run

pub returns-then-whole : goal.returns-then-whole
returns-then-whole c = search in_run_lem

pub returns-else-whole : goal.returns-else-whole
returns-else-whole c = search not-whole
