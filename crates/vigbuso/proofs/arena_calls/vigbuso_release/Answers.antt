use Rattle.std.proofs.Common.{refl}
use Rattle.vigbuso.proofs.FaultSteps.{numbered, call-book}
use Rattle.vigbuso.proofs.DirectSteps.{book_in, release-refused, release-goes}
use Rattle.vigbuso.proofs.arena_calls.vigbuso_release.Goals as goal

pub release-requires : goal.release-requires
release-requires c = book_in _ (call-book _ _ _ c.in-Ok.ensures.fault refl) _ c.in-Ok.ensures.value

pub returns-in-Ok : goal.returns-in-Ok
returns-in-Ok c = rw c.code_of.ensures (release-goes _ _ _ c.in-Ok.ensures.fault _ _ _ _ _ refl c.in-Ok.ensures.value c.release.ensures)

pub returns-in-Err : goal.returns-in-Err
returns-in-Err c = rw c.number.ensures (release-refused _ _ _ c.in-Err.ensures.fault _ _ (numbered _))
