use Rattle.arena.specs.Store.{store_counts}
use Rattle.runs.proofs.store.store_counts.Goals as goal

pub returns : goal.returns
unfolding store_counts
returns c = cc
