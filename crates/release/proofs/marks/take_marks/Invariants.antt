use Rattle.release.proofs.MarkWords.{TakeInv}
use Rattle.release.proofs.marks.take_marks.Given as goal

abbrev pub invariant-loop-j : goal.invariant-loop-j
invariant-loop-j l = TakeInv l.initial.meta l.q l.m l.meta l.j
