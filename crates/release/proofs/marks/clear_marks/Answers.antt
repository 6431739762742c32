use Rattle.release.proofs.MarkWords.{word-there, clear-starts, clear-goes_on, clear-ends}
use Rattle.release.proofs.marks.clear_marks.Goals as goal

pub loop-j-init : goal.loop-j-init
loop-j-init c = search clear-starts

pub set_word-requires : goal.set_word-requires
set_word-requires c = search word-there

pub loop-j-preserved : goal.loop-j-preserved
loop-j-preserved c = search clear-goes_on

pub returns : goal.returns
returns c = search clear-ends
