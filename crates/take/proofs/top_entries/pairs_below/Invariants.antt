use Rattle.take.proofs.TopEntriesSteps.{Pairs}
use Rattle.take.proofs.top_entries.pairs_below.Given as goal

abbrev pub invariant-loop-z : goal.invariant-loop-z
invariant-loop-z l = Pairs l.meta l.q l.carved l.x l.y l.z l.below
