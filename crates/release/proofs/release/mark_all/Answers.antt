use Rattle.release.proofs.ReleaseSteps.{marks-pre, all_set, clear-pre, not-all_set, some-set}
use Rattle.release.proofs.release.mark_all.Goals as goal

pub no_marks-requires : goal.no_marks-requires
no_marks-requires c = search marks-pre

pub returns-then-not-no_marks : goal.returns-then-not-no_marks
returns-then-not-no_marks c = search some-set

pub returns-then-mark_here-list : goal.returns-then-mark_here-list
returns-then-mark_here-list c = search all_set

pub clear_marks-requires : goal.clear_marks-requires
clear_marks-requires c = search clear-pre

pub returns : goal.returns
returns c = search not-all_set
