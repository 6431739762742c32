use Rattle.std.proofs.Common.{rules}
use Rattle.runs.proofs.RecordSteps.{touched, places-none, places-before, places-after, places-both}
use Rattle.runs.proofs.give.place.Goals as goal

pub returns-then-after-eq0 : goal.returns-then-after-eq0
returns-then-after-eq0 c = search places-none

pub join_after-requires : goal.join_after-requires
join_after-requires c = (search rules, search touched)

pub returns-then-before-eq0 : goal.returns-then-before-eq0
returns-then-before-eq0 c = search places-after

pub join_before-requires : goal.join_before-requires
join_before-requires c = (search rules, search touched)

pub returns-then-after-eq0-2 : goal.returns-then-after-eq0-2
returns-then-after-eq0-2 c = search places-before

pub join_both-requires : goal.join_both-requires
join_both-requires c = (search rules, search touched, search touched)

pub returns : goal.returns
returns c = search places-both
