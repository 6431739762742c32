use Rattle.classes.proofs.Shapes.{shape-numbered}
use Rattle.classes.proofs.runs.shape_of.Goals as goal

pub returns : goal.returns
returns c = search shape-numbered
