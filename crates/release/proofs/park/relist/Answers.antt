use Rattle.release.proofs.ParkSteps.{headed, in_list}
use Rattle.release.proofs.park.relist.Goals as goal

pub returns-then-get-eq0 : goal.returns-then-get-eq0
returns-then-get-eq0 c = search headed

pub returns-else-get-eq0 : goal.returns-else-get-eq0
returns-else-get-eq0 c = search in_list
