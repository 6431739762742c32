use Rattle.std.proofs.lemmas.Result.{err_from_is_err_and}
use Rattle.facts.proofs.Prelude.{arith, refl}
use Rattle.words.proofs.Refusals.{positive}
use Rattle.take.proofs.AnswerSteps.{told-no, told-took}
use Rattle.take.proofs.call.take_call.Goals as goal

pub returns-in_err-take_within : goal.returns-in_err-take_within
returns-in_err-take_within c =
    let p = err_from_is_err_and c.from_residual.result c.from_residual.ensures.1 in
    rw (p.1, p.2) (told-no _ _ _ _ _ _ _ _ (c.in_err-take_within.ensures) (λ z. omega (arith, positive (c.in_err-take_within.field-0.0))))

pub returns : goal.returns
returns c = told-took _ _ _ _ _ _ _ _ (c.in_ok-take_within.ensures) refl
