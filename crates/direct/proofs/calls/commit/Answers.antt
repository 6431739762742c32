use borrow.Author.Rules.{rules}
use Rattle.direct.proofs.CallSteps.{commit-bad, clamped-fits, commit-goes}
use Rattle.direct.proofs.calls.commit.Goals as goal

pub returns-then-bad_run : goal.returns-then-bad_run
returns-then-bad_run c = search commit-bad

pub commit_for-requires : goal.commit_for-requires
commit_for-requires c = (search rules, search clamped-fits)

pub returns : goal.returns
returns c = search commit-goes
