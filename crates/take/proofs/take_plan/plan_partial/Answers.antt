use Rattle.facts.proofs.Prelude.{◌≤◌, arith}
use Rattle.std.proofs.lemmas.Result.{err_from_is_err_and}
use Rattle.take.proofs.PlanSteps.{plan-starts, plan-again, plan-empty, plan-fails, plan-above, plan-done, turn-some, turn-most, turn-there, turn-next}
use Rattle.take.proofs.take_plan.plan_partial.Goals as goal

pub loop-left-init : goal.loop-left-init
loop-left-init c = search plan-starts

pub returns-then-code-eq0 : goal.returns-then-code-eq0
returns-then-code-eq0 c = search plan-empty

pub returns-in_err-left : goal.returns-in_err-left
returns-in_err-left c =
    let p = err_from_is_err_and c.from_residual.result c.from_residual.ensures.1 in
    rw (p.1, p.2) (plan-fails _ _ _ _ _ _ _ _ _ c.loop-left-test.true c.loop-left.invariant c.if-code-eq0.false c.in_err-left.ensures)

pub overflow_sub-left : goal.overflow_sub-left
overflow_sub-left c = turn-most _ _ _ _ _ _ _ _ c.in_ok-left.ensures

pub still_virgin-virgin-requires : goal.still_virgin-virgin-requires
still_virgin-virgin-requires c = turn-there _ _ _ _ _ _ _ _ c.requires c.in_ok-left.ensures c.if-code-eq0.false

pub get-code-requires-in-loop-left : goal.get-code-requires-in-loop-left
get-code-requires-in-loop-left c = turn-next _ _ _ _ _ _ _ _ c.requires c.in_ok-left.ensures c.if-code-eq0.false

pub loop-left-smaller : goal.loop-left-smaller
loop-left-smaller c =
    let some : 1 ≤ c.in_ok-left.field-0 = turn-some _ _ _ _ _ _ _ _ c.loop-left-test.true c.in_ok-left.ensures in
    omega arith

pub loop-left-preserved : goal.loop-left-preserved
loop-left-preserved c =
    plan-again _ _ _ _ _ _ _ _ _ _ _ c.loop-left-test.true c.loop-left.invariant c.if-code-eq0.false c.in_ok-left.ensures c.still_virgin-virgin.ensures c.get-code-in-loop-left.ensures

pub returns-then-code-get : goal.returns-then-code-get
returns-then-code-get c = search plan-above

pub returns : goal.returns
returns c = search plan-done
