use Rattle.release.proofs.MarkWords.{CleanInv}
use Rattle.release.proofs.marks.no_marks.Given as goal

abbrev pub invariant-loop-j : goal.invariant-loop-j
invariant-loop-j l = CleanInv l.meta l.q l.m l.any l.j
