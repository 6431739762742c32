use Rattle.facts.proofs.Prelude.{arith}
use Rattle.plan.proofs.PageSteps.{per-there, small-pages, medium-pages, medium-fits}
use Rattle.plan.proofs.pages.pages_for.Goals as goal

pub div_ceil-requires : goal.div_ceil-requires
div_ceil-requires c = per-there _ 0 _ c.shape_of-shape.ensures _ _ c.from.ensures c.div_ceil-per.ensures

pub overflow_mul-result : goal.overflow_mul-result
overflow_mul-result c = record { fits = medium-fits _ _ _ c.shape_of-shape.ensures _ c.from-else-class-lt-NUM_CLASSES.ensures (omega arith) (omega arith) (omega arith) }

pub returns-then-class-lt-NUM_CLASSES : goal.returns-then-class-lt-NUM_CLASSES
returns-then-class-lt-NUM_CLASSES c = small-pages _ _ _ c.shape_of-shape.ensures _ _ c.from.ensures c.div_ceil-per.ensures _ c.div_ceil.ensures (omega arith)

pub returns-else-class-lt-NUM_CLASSES : goal.returns-else-class-lt-NUM_CLASSES
returns-else-class-lt-NUM_CLASSES c = medium-pages _ _ _ c.shape_of-shape.ensures _ c.from-else-class-lt-NUM_CLASSES.ensures (omega arith) (omega arith)
