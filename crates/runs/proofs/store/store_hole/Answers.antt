use Rattle.runs.proofs.store.store_hole.Goals as goal

pub returns : goal.returns
returns c = cc
