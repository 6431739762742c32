use Rattle.std.proofs.lemmas.Result.{err_from_is_err_and}
use Rattle.runs.proofs.CommitSteps.{refuses, told_record, told-request, told_in, told-ends, goes-on}
use Rattle.runs.proofs.commit_for.Goals as goal

pub returns-in_err-hole : goal.returns-in_err-hole
returns-in_err-hole c =
    let p = err_from_is_err_and c.from_residual.result c.from_residual.ensures.1 in
    rw (p.1, p.2) (refuses _ _ _ _ c.find.ensures _ c.in_err-hole.was c.args.host c.args.owner c.requires.0)

pub commit_planned-requires : goal.commit_planned-requires
commit_planned-requires c =
    let d = c.in_ok-hole.was in
    (search told-request, search told_record, search told_in, search told-ends)

pub returns : goal.returns
returns c = let d = c.in_ok-hole.was in search goes-on
