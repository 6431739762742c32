use Rattle.facts.proofs.Prelude.{refl}
use Rattle.listing.proofs.Answer.{ends_listed, ends_refused}
use Rattle.vigbuso.proofs.short_histories.vigbuso_short_histories.Goals as goal

pub returns-in-Ok : goal.returns-in-Ok
returns-in-Ok c = ends_listed _ _ _ c.in-Ok.many _ refl c.in-Ok.ensures

pub returns-in-Err : goal.returns-in-Err
returns-in-Err c = rw c.number.ensures (ends_refused _ _ _ c.in-Err.refusal c.in-Err.ensures)
