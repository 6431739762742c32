use Rattle.trace.proofs.CourseLaws.{ran}
use Rattle.trace.proofs.course.run.Goals as goal

pub returns : goal.returns
returns c = search ran
