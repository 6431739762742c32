use borrow.Author.Rules.{rules}
use Rattle.std.proofs.lemmas.Result.{err_from_is_err_and}
use Rattle.take.proofs.TakeSteps.{made-refused, made-pre, made-new, made-first, made-full, made-ready}
use Rattle.take.proofs.call.make_ready.Goals as goal

pub ready_new-requires : goal.ready_new-requires
ready_new-requires c = record { take_new_pre = made-pre _ _ _ _ _ (c.in_ok-plan_take.ensures) c.in-None.is; granted = search rules }

pub returns-then-room-taken : goal.returns-then-room-taken
returns-then-room-taken c =
    made-full _ _ _ _ _ (c.in_ok-plan_take.ensures) _ c.in-Some.is _ _ c.if-room-taken.true

pub unpark_first-requires : goal.unpark_first-requires
unpark_first-requires c = made-first _ _ _ _ _ (c.in_ok-plan_take.ensures) _ c.in-Some.is

pub returns-in_err-plan_take : goal.returns-in_err-plan_take
returns-in_err-plan_take c =
    let p = err_from_is_err_and c.from_residual.result c.from_residual.ensures.1 in
    rw (p.1, p.2) (made-refused _ _ _ _ _ (c.in_err-plan_take.ensures) _ _)

pub returns-in-None : goal.returns-in-None
returns-in-None c = made-new _ _ _ _ _ (c.in_ok-plan_take.ensures) _ _ _ _ c.in-None.is c.ready_new.ensures

pub returns-else-room-taken : goal.returns-else-room-taken
returns-else-room-taken c =
    made-ready _ _ _ _ _ (c.in_ok-plan_take.ensures) _ c.in-Some.is _ _ _ c.if-room-taken.false c.unpark_first.ensures
