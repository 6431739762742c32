use Rattle.runs.proofs.record.gained.Goals as goal

pub returns : goal.returns
returns c = cc
