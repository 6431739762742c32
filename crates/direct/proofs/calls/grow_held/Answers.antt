use Rattle.std.proofs.Common.{◌≡◌, refl, Option, Some, None, Ok, is_some}
use Rattle.std.proofs.lemmas.Result.{err_from_is_err_and}
use Rattle.runs.specs.declared.Run.{Run}
use Rattle.runs.specs.way.Told.{told_commit}
use Rattle.runs.proofs.CommitSteps.{request_in, loaded_record}
use Rattle.direct.specs.way.Acts.{grow_commit}
use Rattle.direct.specs.way.Told.{told_grow}
use Rattle.direct.proofs.CallSteps.{growth-loads, growth-ends, grows-invalid, grows}
use Rattle.direct.proofs.calls.grow_held.Goals as goal

added : (o : Option Run) → told_grow (Ok (is_some o)) ≡ grow_commit (told_commit (Ok o))
added None = refl
added (Some run) = refl

pub returns-then-not-grow_valid : goal.returns-then-not-grow_valid
returns-then-not-grow_valid c = search grows-invalid

pub grow_run-requires : goal.grow_run-requires
grow_run-requires c = (search (request_in, growth-loads), search (loaded_record, growth-loads), search growth-ends)

pub returns-in_err-added : goal.returns-in_err-added
returns-in_err-added c =
    let p = err_from_is_err_and c.from_residual.result c.from_residual.ensures.1 in
    let e = c.in_err-added.ensures in
    rw (p.1, p.2) (search grows)

pub returns : goal.returns
returns c =
    let e = c.in_ok-added.ensures in
    rw c.is_some.ensures (search (grows, added))
