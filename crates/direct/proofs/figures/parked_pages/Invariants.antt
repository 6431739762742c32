use Rattle.direct.proofs.FigureSteps.{ParkedInv}
use Rattle.direct.proofs.figures.parked_pages.Given as goal

abbrev pub invariant-loop-c : goal.invariant-loop-c
invariant-loop-c l = ParkedInv l.meta l.sum l.c
