use Rattle.vigbuso.proofs.ReleaseSteps.{release_ends_fate, release_ends_refused}
use Rattle.vigbuso.proofs.release_calls.vigbuso_release_blocks.Goals as goal

pub returns-in-Err : goal.returns-in-Err
returns-in-Err c = search (release_ends_refused, c.in-Err.ensures)

pub returns-in-Ok : goal.returns-in-Ok
returns-in-Ok c = search (release_ends_fate, c.in-Ok.ensures)
