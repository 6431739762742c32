use Rattle.std.proofs.lemmas.Result.{err_from_is_err_and}
use Rattle.stock.proofs.GiveSteps.{class_pre_of, released-one, list-pre, released_one_refused, released_one_fate}
use Rattle.stock.proofs.give.give.Goals as goal

pub release_one-requires : goal.release_one-requires
release_one-requires c = search class_pre_of

pub returns-then-release_one : goal.returns-then-release_one
returns-then-release_one c = search released-one

pub release_list-requires : goal.release_list-requires
release_list-requires c = search list-pre

pub returns-in_err-release_list : goal.returns-in_err-release_list
returns-in_err-release_list c =
    let p = err_from_is_err_and c.from_residual.result c.from_residual.ensures.1 in rw (p.1, p.2) (search (released_one_refused, c.in_err-release_list.ensures))

pub returns : goal.returns
returns c = search (released_one_fate, c.in_ok-release_list.ensures)
