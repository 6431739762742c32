use Rattle.trace.specs.way.Steps.{lent}
use Rattle.trace.proofs.CourseLaws.{Onward}
use Rattle.trace.proofs.course.carry_out.Given as goal

abbrev pub invariant-loop-i : goal.invariant-loop-i
invariant-loop-i l = Onward l.n (lent l.initial.meta l.initial.blocks l.initial.figures) l.trace (lent l.meta l.blocks l.figures) l.tally l.i
