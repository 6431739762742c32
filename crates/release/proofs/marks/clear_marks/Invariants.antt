use Rattle.release.proofs.MarkWords.{ClearInv}
use Rattle.release.proofs.marks.clear_marks.Given as goal

abbrev pub invariant-loop-j : goal.invariant-loop-j
invariant-loop-j l = ClearInv l.initial.meta l.q l.m l.meta l.j
