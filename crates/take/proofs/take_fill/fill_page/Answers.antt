use Rattle.take.proofs.FillSteps.{turn-draws, turn_unlinks, turn-done}
use Rattle.take.proofs.take_fill.fill_page.Goals as goal

pub draw_blocks-j-requires : goal.draw_blocks-j-requires
draw_blocks-j-requires c = search turn-draws

pub unlist_spent-requires : goal.unlist_spent-requires
unlist_spent-requires c = search turn_unlinks

pub returns : goal.returns
returns c = search turn-done
