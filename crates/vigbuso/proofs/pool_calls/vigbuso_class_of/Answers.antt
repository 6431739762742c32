use Rattle.vigbuso.proofs.PoolSteps.{class-unfit, book-long, has-frontier, class_unmade, owner-pre, class-none, class-high, class-held}
use Rattle.vigbuso.proofs.FaultSteps.{numbered}
use Rattle.vigbuso.proofs.pool_calls.vigbuso_class_of.Goals as goal

pub returns-in-Err : goal.returns-in-Err
returns-in-Err c = search (class-unfit, numbered, c.in-Err.ensures.fault)

pub head_valid-requires : goal.head_valid-requires
head_valid-requires c = search (book-long, c.in-Ok.ensures.fault, c.in-Ok.ensures.value)

pub returns-then-not-head_valid : goal.returns-then-not-head_valid
returns-then-not-head_valid c = search (class_unmade, c.in-Ok.ensures.fault, c.in-Ok.ensures.value)

pub get-requires : goal.get-requires
get-requires c = search (has-frontier, c.in-Ok.ensures.fault, c.in-Ok.ensures.value)

pub class_at-requires : goal.class_at-requires
class_at-requires c = search (owner-pre, c.in-Ok.ensures.fault, c.in-Ok.ensures.value)

pub returns-in-Some : goal.returns-in-Some
returns-in-Some c = search (class-held, c.in-Ok.ensures.fault, c.in-Ok.ensures.value, c.in-Some.ensures)

pub returns-in_default : goal.returns-in_default
returns-in_default c = search (class-high, c.in-Ok.ensures.fault, c.in-Ok.ensures.value, c.in-Some.ensures)

pub returns-in_default-2 : goal.returns-in_default-2
returns-in_default-2 c = search (class-none, c.in-Ok.ensures.fault, c.in-Ok.ensures.value, c.in_default.ensures)
