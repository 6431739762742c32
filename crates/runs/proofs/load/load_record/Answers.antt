use Rattle.runs.proofs.load.load_record.Goals as goal

pub returns : goal.returns
returns c = cc
