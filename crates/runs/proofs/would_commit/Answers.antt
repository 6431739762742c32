use Rattle.std.proofs.Common.{rules}
use Rattle.runs.proofs.CommitSteps.{find-few, search_refused, search_not, search_sum, search_off, search_fresh, search_reuse}
use Rattle.runs.proofs.would_commit.Goals as goal

pub search-requires : goal.search-requires
search-requires c = (search find-few, search rules)

pub returns-in_default : goal.returns-in_default
returns-in_default c = search search_not

pub returns-then-a-eq2 : goal.returns-then-a-eq2
returns-then-a-eq2 c = search search_off

pub overflow_add-result : goal.overflow_add-result
overflow_add-result c = search search_sum

pub returns-then-is_some : goal.returns-then-is_some
returns-then-is_some c = search search_reuse

pub returns-else-is_some : goal.returns-else-is_some
returns-else-is_some c = search search_fresh

pub returns : goal.returns
returns c = search search_refused
