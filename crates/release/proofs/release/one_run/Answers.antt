use Rattle.release.proofs.ReleaseSteps.{some-listed, first_fits, first-pre, start-pre, other-run, this_run}
use Rattle.release.proofs.release.one_run.Goals as goal

pub bounds-list-0 : goal.bounds-list-0
bounds-list-0 c = search some-listed

pub page_within-requires : goal.page_within-requires
page_within-requires c = search first_fits

pub get-q-requires : goal.get-q-requires
get-q-requires c = search first-pre

pub of_one_run-requires : goal.of_one_run-requires
of_one_run-requires c = search start-pre

pub returns-then-not-of_one_run : goal.returns-then-not-of_one_run
returns-then-not-of_one_run c = search other-run

pub returns : goal.returns
returns c = search this_run
