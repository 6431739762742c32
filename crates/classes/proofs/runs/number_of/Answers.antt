use Rattle.classes.proofs.Shapes.{number-low, number-high}
use Rattle.classes.proofs.runs.number_of.Goals as goal

pub returns-then-id-lt-CLASS_COUNT : goal.returns-then-id-lt-CLASS_COUNT
returns-then-id-lt-CLASS_COUNT c = search number-low

pub returns-else-id-lt-CLASS_COUNT : goal.returns-else-id-lt-CLASS_COUNT
returns-else-id-lt-CLASS_COUNT c = search number-high
