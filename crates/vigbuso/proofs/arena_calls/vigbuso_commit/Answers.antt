use Rattle.std.proofs.Common.{refl, ap}
use Rattle.runs.specs.way.Told.{told_commit}
use Rattle.runs.proofs.Told.{told-run, told-none}
use Rattle.vigbuso.proofs.FaultSteps.{numbered, call-book}
use Rattle.vigbuso.proofs.DirectSteps.{book_in, commit-refused, commit-goes, commit_ends_refused, commit_ends_run, commit_ends_none}
use Rattle.vigbuso.proofs.arena_calls.vigbuso_commit.Goals as goal

pub returns-in-Err : goal.returns-in-Err
returns-in-Err c = rw c.number.ensures (commit-refused _ _ _ c.in-Err.ensures.fault _ _ _ (numbered _))

pub commit-requires : goal.commit-requires
commit-requires c = book_in _ (call-book _ _ _ c.in-Ok.ensures.fault refl) _ c.in-Ok.ensures.value

pub returns-in-Err-commit : goal.returns-in-Err-commit
returns-in-Err-commit c =
    let k = commit-goes _ _ _ c.in-Ok.ensures.fault _ _ _ _ refl c.in-Ok.ensures.value c.commit.ensures in
    rw c.number-in-Err-commit.ensures (commit_ends_refused _ _ _ k _ _ _ (ap told_commit c.in-Err-commit.is))

pub returns-in-Ok-Some : goal.returns-in-Ok-Some
returns-in-Ok-Some c =
    let k = commit-goes _ _ _ c.in-Ok.ensures.fault _ _ _ _ refl c.in-Ok.ensures.value c.commit.ensures in
    rw c.from.ensures (commit_ends_run _ _ _ k _ _ _ _ (told-run _ _ c.in-Ok-Some.is _ c.in-Ok-Some.field-0-is))

pub returns-in-Ok-None : goal.returns-in-Ok-None
returns-in-Ok-None c =
    let k = commit-goes _ _ _ c.in-Ok.ensures.fault _ _ _ _ refl c.in-Ok.ensures.value c.commit.ensures in commit_ends_none _ _ _ k _ _ (told-none _ _ c.in-Ok-None.is c.in-Ok-None.field-0-is)
