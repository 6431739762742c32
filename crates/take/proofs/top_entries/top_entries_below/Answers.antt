use Rattle.take.proofs.TopEntriesSteps.{top_entries-is}
use Rattle.take.proofs.top_entries.top_entries_below.Goals as goal

pub returns : goal.returns
returns c = top_entries-is c.args.meta.now c.args.q c.args.carved c.args.m c.args.top c.saturating_sub.result _ c.saturating_sub.ensures c.entries_below.ensures
