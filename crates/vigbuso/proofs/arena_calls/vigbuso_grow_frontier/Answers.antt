use Rattle.std.proofs.Common.{refl, ap}
use Rattle.direct.specs.way.Told.{told_grow}
use Rattle.vigbuso.proofs.FaultSteps.{numbered, call-book}
use Rattle.vigbuso.proofs.DirectSteps.{book_in, grow-refused, grow-goes, grow_ends_refused, grow_ends_told}
use Rattle.vigbuso.proofs.arena_calls.vigbuso_grow_frontier.Goals as goal

pub returns-in-Err : goal.returns-in-Err
returns-in-Err c = rw c.number.ensures (grow-refused _ _ _ c.in-Err.ensures.fault _ _ _ _ (numbered _))

pub grow_frontier-requires : goal.grow_frontier-requires
grow_frontier-requires c = book_in _ (call-book _ _ _ c.in-Ok.ensures.fault refl) _ c.in-Ok.ensures.value

pub returns-in-Err-grow_frontier : goal.returns-in-Err-grow_frontier
returns-in-Err-grow_frontier c =
    let k = grow-goes _ _ _ c.in-Ok.ensures.fault _ _ _ _ _ _ refl c.in-Ok.ensures.value c.grow_frontier.ensures in
    rw c.number-in-Err-grow_frontier.ensures (grow_ends_refused _ _ _ k _ _ (ap told_grow c.in-Err-grow_frontier.is))

pub returns-in-Ok-grow_frontier : goal.returns-in-Ok-grow_frontier
returns-in-Ok-grow_frontier c =
    let k = grow-goes _ _ _ c.in-Ok.ensures.fault _ _ _ _ _ _ refl c.in-Ok.ensures.value c.grow_frontier.ensures in
    rw c.from.ensures (grow_ends_told _ _ _ k _ _ (ap told_grow c.in-Ok-grow_frontier.is))
