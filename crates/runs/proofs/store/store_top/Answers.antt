use Rattle.arena.specs.Store.{store_top}
use Rattle.runs.proofs.store.store_top.Goals as goal

pub returns : goal.returns
unfolding store_top
returns c = cc
