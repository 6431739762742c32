use Rattle.trace.proofs.StepWays.{back-past, back-gone, back-nowhere, back-refused, back-went, block-yes}
use Rattle.trace.proofs.steps.back_word.Goals as goal

pub returns-then-t-p : goal.returns-then-t-p
returns-then-t-p c = search back-past

pub returns-then-not-is_block : goal.returns-then-not-is_block
returns-then-not-is_block c = search back-gone

pub returns-in_err-c : goal.returns-in_err-c
returns-in_err-c c = search (back-nowhere, c.in_err-c.ensures)

pub flip_kind-requires : goal.flip_kind-requires
flip_kind-requires c = search block-yes

pub returns-in-Err : goal.returns-in-Err
returns-in-Err c = search (back-refused, c.in-Err.ensures)

pub returns-in-Ok : goal.returns-in-Ok
returns-in-Ok c = search (back-went, c.in_ok-c.ensures, c.in-Ok.ensures)
