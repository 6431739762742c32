use Rattle.runs.proofs.give.move_last.Goals as goal

pub returns : goal.returns
returns c = cc
