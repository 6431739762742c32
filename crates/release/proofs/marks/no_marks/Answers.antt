use Rattle.release.proofs.MarkWords.{word-there, clean-starts, clean-goes_on, clean-ends}
use Rattle.release.proofs.marks.no_marks.Goals as goal

pub loop-j-init : goal.loop-j-init
loop-j-init c = search clean-starts

pub word-any-requires : goal.word-any-requires
word-any-requires c = search word-there

pub loop-j-preserved : goal.loop-j-preserved
loop-j-preserved c = search clean-goes_on

pub returns : goal.returns
returns c = search clean-ends
