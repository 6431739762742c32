use Rattle.release.proofs.ReleaseSteps.{by-list, by-words, sweep-pre}
use Rattle.release.proofs.release.take_all.Goals as goal

pub returns-then-m-eq0 : goal.returns-then-m-eq0
returns-then-m-eq0 c = search by-list

pub take_marks-requires : goal.take_marks-requires
take_marks-requires c = search sweep-pre

pub returns : goal.returns
returns c = search by-words
