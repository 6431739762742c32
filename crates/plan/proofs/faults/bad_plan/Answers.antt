use Rattle.facts.proofs.Prelude.{◌∙◌, sym, true≢false}
use Rattle.plan.proofs.FaultSteps.{bad_by_lengths, bad_by_sizes, bad_by_takes}
use Rattle.plan.proofs.faults.bad_plan.Goals as goal
use Rattle.plan.proofs.faults.bad_plan.Goals.{then-bad_lengths, else-bad_lengths}

pub returns-then-not-all_within : goal.returns-then-not-all_within
returns-then-not-all_within c =
    elim c.if-bad_lengths.branch [
      | then-bad_lengths w ↦ bad_by_lengths _ _ _ _ c.bad_lengths.ensures w.if-bad_lengths.true w.value-is
      | else-bad_lengths w ↦ bad_by_sizes _ _ _ _ c.bad_lengths.ensures _ w.all_within.ensures w.if-bad_lengths.false w.value-is c.if-not-all_within.true
    ]

pub returns-else-not-all_within : goal.returns-else-not-all_within
returns-else-not-all_within c =
    elim c.if-bad_lengths.branch [
      | then-bad_lengths w ↦ absurd (true≢false (sym w.if-bad_lengths.true ∙ sym w.value-is ∙ c.if-not-all_within.false))
      | else-bad_lengths w ↦
          bad_by_takes _ _ _ _ c.bad_lengths.ensures _ w.all_within.ensures w.if-bad_lengths.false w.value-is _ c.all_within-else-not-all_within.ensures c.if-not-all_within.false
    ]
