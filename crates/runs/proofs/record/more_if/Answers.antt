use Rattle.runs.proofs.record.more_if.Goals as goal

pub returns-then-so : goal.returns-then-so
returns-then-so c = simp c.if-so.true
