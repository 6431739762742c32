use Rattle.std.proofs.Common.{refl, sym}
use Rattle.vigbuso.proofs.DirectSteps.{book_in, contains-refused, contains-goes}
use Rattle.vigbuso.proofs.FaultSteps.{numbered}
use Rattle.vigbuso.proofs.arena_calls.vigbuso_contains.Goals as goal

pub contains-requires : goal.contains-requires
contains-requires c = book_in _ (sym c.in-Ok.ensures.fault) _ c.in-Ok.ensures.value

pub returns-in-Ok : goal.returns-in-Ok
returns-in-Ok c = rw c.from.ensures (contains-goes _ _ c.in-Ok.ensures.fault _ _ _ _ refl c.in-Ok.ensures.value c.contains.ensures)

pub returns-in-Err : goal.returns-in-Err
returns-in-Err c = contains-refused _ _ c.in-Err.ensures.fault _ _ (numbered _)
