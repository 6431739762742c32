use Rattle.facts.proofs.Prelude.{◌+◌, ◌*◌, arith, ap, set}
use Rattle.fields.proofs.Clear.{cleared}
use Rattle.fields.proofs.out.clear_word.Goals as goal

pub returns : goal.returns
returns c =
    let a = c.args in
    let x = 40016 + 4112 * a.p + a.j in
    cleared a.p a.j a.meta.now _ (omega (arith, c.requires)) (omega (arith, c.slice_known-1.given x))
    (ap (λ i. set a.meta.now i 0) (omega (arith, c.page_word.ensures)))
