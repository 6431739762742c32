use Rattle.trace.proofs.CourseLaws.{onward-more}
use Rattle.trace.proofs.course.carry_out.Goals as goal

pub loop-i-preserved : goal.loop-i-preserved
loop-i-preserved c = search (onward-more, c.in-Some.ensures)
