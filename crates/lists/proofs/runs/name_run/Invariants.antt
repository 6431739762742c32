use Rattle.lists.proofs.RunSteps.{NameInv}
use Rattle.lists.proofs.runs.name_run.Given as goal

abbrev pub invariant-loop-x : goal.invariant-loop-x
invariant-loop-x l = NameInv l.initial.meta l.q l.pages l.meta l.x
