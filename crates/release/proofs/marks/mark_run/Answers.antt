use Rattle.release.proofs.MarkSteps.{span_fits, none_left, alone-ends}
use Rattle.release.proofs.marks.mark_run.Goals as goal

pub returns-then-from-list : goal.returns-then-from-list
returns-then-from-list c = search none_left

pub overflow_mul-span : goal.overflow_mul-span
overflow_mul-span c = search span_fits

pub returns-then-alone : goal.returns-then-alone
returns-then-alone c = search alone-ends
