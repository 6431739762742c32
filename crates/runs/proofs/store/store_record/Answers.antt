use Rattle.runs.proofs.store.store_record.Goals as goal

pub returns : goal.returns
returns c = cc
