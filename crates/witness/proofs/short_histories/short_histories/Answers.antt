use Rattle.witness.proofs.Witnessed.{listing-observed}
use Rattle.witness.proofs.short_histories.short_histories.Goals as goal

pub returns : goal.returns
returns c = search listing-observed
