use Rattle.take.proofs.TakeSteps.{run-new, run-links, run-ready}
use Rattle.take.proofs.call.ready_run.Goals as goal

pub new_run-requires : goal.new_run-requires
new_run-requires c = search run-new

pub link_partial-requires : goal.link_partial-requires
link_partial-requires c = search run-links

pub returns : goal.returns
returns c = search run-ready
