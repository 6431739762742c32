use Rattle.release.proofs.MarkWords.{word-there, take-starts, take-goes_on, take_ends}
use Rattle.release.proofs.marks.take_marks.Goals as goal

pub loop-j-init : goal.loop-j-init
loop-j-init c = search take-starts

pub take_word-requires : goal.take_word-requires
take_word-requires c = search word-there

pub loop-j-preserved : goal.loop-j-preserved
loop-j-preserved c = search take-goes_on

pub returns : goal.returns
returns c = search take_ends
