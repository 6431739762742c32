use Rattle.std.proofs.Common.{rules, tests}
use Rattle.release.proofs.BackSteps.{back-pre, give-pre}
use Rattle.release.proofs.park.settle.Goals as goal

pub release_inner-fate-requires : goal.release_inner-fate-requires
release_inner-fate-requires c = search back-pre

pub give-requires : goal.give-requires
give-requires c = search (rules, tests, give-pre)
