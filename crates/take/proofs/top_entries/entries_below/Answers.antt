use Rattle.facts.proofs.Prelude.{arith}
use Rattle.std.proofs.lemmas.Grind.{common_steps}
use Rattle.take.proofs.TopEntriesSteps.{entries-split}
use Rattle.take.proofs.top_entries.entries_below.Goals as goal

pub returns-then-end_below-2 : goal.returns-then-end_below-2
returns-then-end_below-2 c =
    let e = entries-split c.args.meta.now c.args.q c.args.carved c.args.from c.args.top c.requires.from_le_top in
    grind (arith, common_steps, e)

pub returns-else-end_below-2 : goal.returns-else-end_below-2
returns-else-end_below-2 c =
    let e = entries-split c.args.meta.now c.args.q c.args.carved c.args.from c.args.top c.requires.from_le_top in
    grind (arith, common_steps, e)
