use Rattle.plan.proofs.PlanSteps.{zeros, unrefused, refused, totalled}
use Rattle.plan.proofs.plan.Goals as goal

pub returns-then-bad_plan : goal.returns-then-bad_plan
returns-then-bad_plan c = search refused

pub add_takes-requires : goal.add_takes-requires
add_takes-requires c = record { fine = search unrefused; zeros = search zeros }

pub returns : goal.returns
returns c = search totalled
