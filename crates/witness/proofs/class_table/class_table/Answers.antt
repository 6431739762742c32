use Rattle.witness.proofs.Witnessed.{table-observed}
use Rattle.witness.proofs.class_table.class_table.Goals as goal

pub returns : goal.returns
returns c = search table-observed
