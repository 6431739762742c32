use Rattle.witness.proofs.Witnessed.{report-observed}
use Rattle.witness.proofs.arena_calls.report.Goals as goal

pub returns : goal.returns
returns c = search report-observed
