use Rattle.trace.proofs.TakeWays.{take-many, take_more, take-refused, take-went}
use Rattle.trace.proofs.steps.take_word.Goals as goal

pub returns-then-t-gt-BYTES_MAX : goal.returns-then-t-gt-BYTES_MAX
returns-then-t-gt-BYTES_MAX c = search take-many

pub with-requires : goal.with-requires
with-requires c = search take_more

pub returns-in-Err : goal.returns-in-Err
returns-in-Err c = search take-refused

pub returns-in-Ok : goal.returns-in-Ok
returns-in-Ok c = search take-went
