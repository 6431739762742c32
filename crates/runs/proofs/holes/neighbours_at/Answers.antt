use Rattle.runs.proofs.holes.neighbours_at.Goals as goal

pub returns : goal.returns
returns c = cc
