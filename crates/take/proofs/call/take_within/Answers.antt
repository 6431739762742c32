use Rattle.std.proofs.lemmas.Result.{err_from_is_err_and}
use Rattle.take.proofs.TakeSteps.{shape-pre, list-short, list-granted, list-refused, list-none, list-fills, list-took}
use Rattle.take.proofs.call.take_within.Goals as goal

pub returns-then-whole-list : goal.returns-then-whole-list
returns-then-whole-list c = search list-short

pub make_ready-requires : goal.make_ready-requires
make_ready-requires c = record { source_pre = search shape-pre; granted = search list-granted }

pub fill_from_list-requires : goal.fill_from_list-requires
fill_from_list-requires c =
    list-fills _ _ _ _ _ _ _ _ (c.in_ok-make_ready.ensures) _ c.in-Some.is

pub returns-in_err-make_ready : goal.returns-in_err-make_ready
returns-in_err-make_ready c =
    let p = err_from_is_err_and c.from_residual.result c.from_residual.ensures.1 in
    rw (p.1, p.2) (list-refused _ _ _ _ _ _ _ c.shape_of-shape.ensures c.if-whole-list.false _ _ (c.in_err-make_ready.ensures) _ _)

pub returns-in-None : goal.returns-in-None
returns-in-None c =
    list-none _ _ _ _ _ _ _ c.shape_of-shape.ensures c.if-whole-list.false _ _ (c.in_ok-make_ready.ensures) c.in-None.is _ _

pub returns-in-Some : goal.returns-in-Some
returns-in-Some c =
    rw c.from.ensures (list-took _ _ _ _ _ _ _ c.shape_of-shape.ensures c.if-whole-list.false _ _ (c.in_ok-make_ready.ensures) _ _ _ _ _ c.in-Some.is c.fill_from_list.ensures)
