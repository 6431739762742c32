use Rattle.plan.proofs.ClassOf.{small_is, medium-is, large_is, medium-fits}
use Rattle.plan.proofs.sums.class_of.Goals as goal

pub overflow_add-result : goal.overflow_add-result
overflow_add-result c = search medium-fits

pub returns-in-Small : goal.returns-in-Small
returns-in-Small c = search small_is

pub returns-in-Medium : goal.returns-in-Medium
returns-in-Medium c = search medium-is

pub returns-in-TooLarge : goal.returns-in-TooLarge
returns-in-TooLarge c = search large_is
