use Rattle.facts.proofs.Prelude.{sym, set_out}
use Rattle.listing.proofs.write.Goals as goal

pub returns-else-at-out : goal.returns-else-at-out
returns-else-at-out c = sym (set_out _ _ _ c.if-at-out.false)
