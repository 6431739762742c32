use Rattle.release.proofs.MarkBits.{one_bit}
use Rattle.release.proofs.marks.mark_block.Goals as goal

pub returns : goal.returns
returns c = search one_bit
