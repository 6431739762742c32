use borrow.Author.Rules.{rules}
use Rattle.take.proofs.TakeSteps.{plan-invalid, source_pre, plan-listed, plan-none, plan-stored, mapped}
use Rattle.facts.proofs.Prelude.{ap, not}
use Rattle.take.proofs.take_plan.plan_take.Goals as goal

pub returns-then-not-head_valid : goal.returns-then-not-head_valid
returns-then-not-head_valid c = search plan-invalid

pub plan_partial-requires : goal.plan_partial-requires
plan_partial-requires c = search source_pre

pub returns-then-get-ne0 : goal.returns-then-get-ne0
returns-then-get-ne0 c =
    let e = mapped c.plan_partial.result c.map.result c.map.ensures.cases in
    rw e (plan-listed _ _ _ _ _ c.head_valid.ensures c.requires (ap not c.if-not-head_valid.false) _ c.get.ensures c.if-get-ne0.true _ c.plan_partial.ensures)

pub returns-then-store_top-eq0 : goal.returns-then-store_top-eq0
returns-then-store_top-eq0 c =
    plan-none _ _ _ _ _ c.head_valid.ensures c.requires (ap not c.if-not-head_valid.false) _ c.get.ensures c.if-get-ne0.false _ c.first_store-park.ensures _ c.store_top.ensures c.if-store_top-eq0.true

pub plan_parked-requires : goal.plan_parked-requires
plan_parked-requires c = search (rules, source_pre)

pub returns : goal.returns
returns c =
    let e = mapped c.plan_parked.result c.map-2.result c.map-2.ensures.cases in
    rw e (plan-stored _ _ _ _ _ c.head_valid.ensures c.requires (ap not c.if-not-head_valid.false) _ c.get.ensures c.if-get-ne0.false _ c.first_store-park.ensures _ c.store_top.ensures c.if-store_top-eq0.false _ c.plan_parked.ensures)
