use Rattle.release.proofs.ReleaseSteps.{marked-there, marked-valid, marked-takes, marked-settles, marked-taken, marked-cleared}
use Rattle.std.proofs.Common.{rules}
use Rattle.release.proofs.release.finish.Goals as goal

pub release_valid-requires : goal.release_valid-requires
release_valid-requires c = search marked-valid

pub clear_marks-requires : goal.clear_marks-requires
clear_marks-requires c = search marked-there

pub returns-then-not-release_valid : goal.returns-then-not-release_valid
returns-then-not-release_valid c = search marked-cleared

pub take_all-requires : goal.take_all-requires
take_all-requires c = record { take_pre = search marked-takes; m_bound = search rules }

pub settle-requires : goal.settle-requires
settle-requires c = search marked-settles

pub returns : goal.returns
returns c = search marked-taken
