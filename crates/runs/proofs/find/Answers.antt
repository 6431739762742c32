use Rattle.std.proofs.Common.{rules}
use Rattle.runs.proofs.CommitSteps.{find-few, finds, finds-not}
use Rattle.runs.proofs.find.Goals as goal

pub plan-requires : goal.plan-requires
plan-requires c = (search find-few, search rules)

pub returns-then-record_valid : goal.returns-then-record_valid
returns-then-record_valid c = search finds

pub returns : goal.returns
returns c = search finds-not
