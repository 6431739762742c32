use Rattle.runs.proofs.record.drawn.Goals as goal

pub returns : goal.returns
returns c = cc
