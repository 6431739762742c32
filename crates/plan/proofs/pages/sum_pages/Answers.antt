use Rattle.facts.proofs.Prelude.{arith}
use Rattle.plan.proofs.PageSteps.{sum-start, sum-next, sum-end}
use Rattle.plan.proofs.pages.sum_pages.Goals as goal

pub loop-class-init : goal.loop-class-init
loop-class-init c = search sum-start

pub pages_for-pages-requires : goal.pages_for-pages-requires
pages_for-pages-requires c = record { class_lt_class_count = omega arith; takes_le_sum_max = c.requires c.loop-class.class (omega arith) }

pub overflow_add-pages : goal.overflow_add-pages
overflow_add-pages c = omega (arith, c.requires c.loop-class.class (omega arith))

pub loop-class-preserved : goal.loop-class-preserved
loop-class-preserved c = search sum-next

pub returns : goal.returns
returns c = sum-end _ _ _ c.loop-class.invariant (omega arith)
