use Rattle.chunks.proofs.PlaceSteps.{PlaceInv}
use Rattle.chunks.proofs.place.place_chunks.Given as goal

abbrev pub invariant-loop-i : goal.invariant-loop-i
invariant-loop-i l = PlaceInv l.initial.meta l.c l.shape l.host l.chunks l.initial.fates l.meta l.fates l.i
