use Rattle.stock.proofs.PlaceSteps.{Putting}
use Rattle.stock.proofs.places.put_all.Given as goal

abbrev pub invariant-loop-k : goal.invariant-loop-k
invariant-loop-k l = Putting l.n l.initial.meta l.c l.list l.meta l.k
