use Rattle.release.specs.way.Marks.{take_word}
use Rattle.release.proofs.marks.take_word.Goals as goal

pub returns : goal.returns
unfolding take_word
returns c = cc
