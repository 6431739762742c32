use Rattle.release.proofs.MarkSteps.{no_block, has-mark, a_block}
use Rattle.release.proofs.marks.mark_one.Goals as goal

pub returns-in_default : goal.returns-in_default
returns-in_default c = search (no_block, c.in_default.ensures)

pub mark_block-requires : goal.mark_block-requires
mark_block-requires c = search (has-mark, c.in-Some.ensures)

pub returns : goal.returns
returns c = search (a_block, c.in-Some.ensures)
