use Rattle.chunks.proofs.CallSteps.{try_pre, at_once, test_pre, tested}
use Rattle.chunks.proofs.call.take_listed.Goals as goal

pub try_take-requires : goal.try_take-requires
try_take-requires c = search try_pre

pub returns-then-try_take : goal.returns-then-try_take
returns-then-try_take c = search at_once

pub take_tested-requires : goal.take_tested-requires
take_tested-requires c = search test_pre

pub returns : goal.returns
returns c = search tested
