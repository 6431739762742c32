use Rattle.lists.proofs.DrawSteps.{draw-pre, draw-done}
use Rattle.lists.proofs.draw.draw_blocks.Goals as goal

pub give_blocks-requires : goal.give_blocks-requires
give_blocks-requires c = search draw-pre

pub returns : goal.returns
returns c =
    draw-done _ _ _ _ _ _ _ _ _ _ c.get-free.ensures c.get-carved.ensures c.min-popped.ensures c.min-fresh.ensures _ _ _ _ c.requires
    c.give_blocks.ensures c.set.ensures c.set-2.ensures
