use Rattle.runs.proofs.holes.hole_from.Goals as goal

pub returns : goal.returns
returns c = cc
