use Rattle.direct.proofs.CallSteps.{Ruling, Pooling}
use Rattle.direct.proofs.open.set_rules.Given as goal

abbrev pub invariant-loop-c : goal.invariant-loop-c
invariant-loop-c l = Ruling l.rows l.initial.meta l.meta l.c

abbrev pub invariant-loop-k : goal.invariant-loop-k
invariant-loop-k l = Pooling l.rows l.initial.meta l.meta l.k
