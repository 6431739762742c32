use Rattle.runs.proofs.act.end_run.Goals as goal

pub returns : goal.returns
returns c = cc
