use Rattle.lists.proofs.PopSteps.{high-pre, low-pre, pair-done}
use Rattle.lists.proofs.pop.pop_pair.Goals as goal

pub give_block-requires : goal.give_block-requires
give_block-requires c = search high-pre

pub give_block-requires-2 : goal.give_block-requires-2
give_block-requires-2 c = low-pre _ _ _ _ _ _ c.requires _ _ _ _ c.entry-low.ensures c.give_block.ensures

pub returns : goal.returns
returns c = pair-done _ _ _ _ _ _ c.requires _ _ _ _ _ _ c.entry-high.ensures c.entry-low.ensures c.give_block.ensures c.give_block-2.ensures
