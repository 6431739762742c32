use Rattle.stock.proofs.PlaceSteps.{stocked-yes, stocked-no, place-low}
use Rattle.stock.proofs.places.is_stocked.Goals as goal

pub entry-requires-clause-k_bound : goal.entry-requires-clause-k_bound
entry-requires-clause-k_bound c = search place-low

pub returns-then-k-count : goal.returns-then-k-count
returns-then-k-count c = search stocked-yes

pub returns-else-k-count : goal.returns-else-k-count
returns-else-k-count c = search stocked-no
