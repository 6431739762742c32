use Rattle.release.proofs.ParkSteps.{links-there, left-list, in_no_list}
use Rattle.release.proofs.park.unlist.Goals as goal

pub unlink_partial-requires : goal.unlink_partial-requires
unlink_partial-requires c = search links-there

pub returns-then-get-eq1 : goal.returns-then-get-eq1
returns-then-get-eq1 c = search left-list

pub returns-else-get-eq1 : goal.returns-else-get-eq1
returns-else-get-eq1 c = search in_no_list
