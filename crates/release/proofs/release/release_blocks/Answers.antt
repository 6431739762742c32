use Rattle.release.proofs.OneSteps.{one-done, after_one, as_before}
use Rattle.std.proofs.Common.{rules}
use Rattle.release.proofs.release.release_blocks.Goals as goal

pub returns-then-release_one : goal.returns-then-release_one
returns-then-release_one c = search one-done

pub release_list-requires-2 : goal.release_list-requires-2
release_list-requires-2 c = after_one _ _ _ _ _ _ c.release_one.ensures c.if-release_one.false (search rules)

pub returns : goal.returns
returns c = search as_before
