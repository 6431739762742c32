use Rattle.take.proofs.TopEntriesSteps.{pairs-none, pairs-more, pairs-done}
use Rattle.take.proofs.top_entries.pairs_below.Goals as goal

pub loop-z-init : goal.loop-z-init
loop-z-init c = search pairs-none

pub loop-z-preserved : goal.loop-z-preserved
loop-z-preserved c = search pairs-more

pub returns : goal.returns
returns c = pairs-done _ _ _ _ _ _ _ c.loop-z-test.false c.loop-z.invariant
