use Rattle.facts.proofs.Prelude.{arith, refl}
use Rattle.fields.proofs.OutBits.{bits_set}
use Rattle.fields.proofs.out.set_in_word.Goals as goal

pub returns : goal.returns
returns c =
    let a = c.args in
    bits_set a.p a.j a.s a.n _ _ a.meta.now _ (omega arith) c.page_word-at.ensures (omega arith) c.set_ones.ensures refl
