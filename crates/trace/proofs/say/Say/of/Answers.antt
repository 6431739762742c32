use Rattle.trace.proofs.WordWays.{says_take, says_high, says_back, says_report, says_more, says_other}
use Rattle.trace.proofs.say.Say.of.Goals as goal

pub returns-in-0 : goal.returns-in-0
returns-in-0 c = search says_take

pub returns-in-1 : goal.returns-in-1
returns-in-1 c = search says_back

pub returns-in-2 : goal.returns-in-2
returns-in-2 c = search says_report

pub returns-in_default : goal.returns-in_default
returns-in_default c = search says_high

pub returns-in_default-2 : goal.returns-in_default-2
returns-in_default-2 c = search says_more

pub returns-in_default-3 : goal.returns-in_default-3
returns-in_default-3 c = search says_other
