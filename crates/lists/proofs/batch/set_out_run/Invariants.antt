use Rattle.lists.proofs.BatchSteps.{SettingOuts}
use Rattle.lists.proofs.batch.set_out_run.Given as goal

abbrev pub invariant-loop-left : goal.invariant-loop-left
invariant-loop-left l = SettingOuts l.initial.meta l.q l.from l.k l.meta l.i l.left

abbrev pub decreases-loop-left : goal.decreases-loop-left
decreases-loop-left l = l.left
