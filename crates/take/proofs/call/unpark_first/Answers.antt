use Rattle.take.proofs.TakeSteps.{first_some, first-unparks, unparked-first, listed-first}
use Rattle.take.proofs.call.unpark_first.Goals as goal

pub overflow_sub-q : goal.overflow_sub-q
overflow_sub-q c = search first_some

pub unpark_run-requires : goal.unpark_run-requires
unpark_run-requires c =
    first-unparks _ _ _ c.get.ensures c.requires c.if-get-eq0.true _ c.first_store-park.ensures _ c.store_top-q.ensures

pub returns-then-get-eq0 : goal.returns-then-get-eq0
returns-then-get-eq0 c = search unparked-first

pub returns-else-get-eq0 : goal.returns-else-get-eq0
returns-else-get-eq0 c = search listed-first
