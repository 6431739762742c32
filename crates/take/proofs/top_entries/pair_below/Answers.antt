use Rattle.take.proofs.TopEntriesSteps.{pair-done}
use Rattle.take.proofs.top_entries.pair_below.Goals as goal

pub returns : goal.returns
returns c = search pair-done
