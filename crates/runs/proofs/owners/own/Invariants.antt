use Rattle.runs.proofs.RecordSteps.{OwningTo}
use Rattle.runs.proofs.owners.own.Given as goal

abbrev pub invariant-loop-p : goal.invariant-loop-p
invariant-loop-p l = OwningTo l.initial.meta l.first l.pages l.owner l.meta l.p
