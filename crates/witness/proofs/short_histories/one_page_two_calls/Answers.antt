use Rattle.witness.proofs.Witnessed.{one_page_observed}
use Rattle.witness.proofs.short_histories.one_page_two_calls.Goals as goal

pub returns : goal.returns
returns c = search one_page_observed
