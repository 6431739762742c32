use Rattle.facts.proofs.Prelude.{arith}
use Rattle.fields.proofs.OutBits.{ones_set}
use Rattle.fields.proofs.bits.set_ones.Goals as goal

pub returns : goal.returns
returns c = ones_set _ _ _ _ c.ones.ensures (omega arith)
