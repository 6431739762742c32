use Rattle.release.proofs.StretchSteps.{alone-told, alone-last}
use Rattle.std.proofs.Common.{rules}
use Rattle.release.proofs.marks.alone.Goals as goal

pub returns-then-i-list : goal.returns-then-i-list
returns-then-i-list c = search (rules, alone-told)

pub returns : goal.returns
returns c = search (rules, alone-last)
