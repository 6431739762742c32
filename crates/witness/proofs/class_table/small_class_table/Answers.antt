use Rattle.witness.proofs.Witnessed.{small_table_observed}
use Rattle.witness.proofs.class_table.small_class_table.Goals as goal

pub returns : goal.returns
returns c = search small_table_observed
