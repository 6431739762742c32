use Rattle.direct.proofs.open.set_limits.Goals as goal

pub returns : goal.returns
returns c = cc
