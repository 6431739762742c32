use Rattle.rules.proofs.RowSteps.{rows_read}
use Rattle.rules.proofs.rows.whole_rows.Goals as goal

pub returns : goal.returns
returns c = rw c.as_chunks.ensures.front (rows_read _)
