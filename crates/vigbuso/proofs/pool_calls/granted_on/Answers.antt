use Rattle.vigbuso.proofs.FaultSteps.{admits-book}
use Rattle.vigbuso.proofs.DirectSteps.{has-size}
use Rattle.vigbuso.proofs.PoolSteps.{admitted-pre, granted-is, granted-no}
use Rattle.vigbuso.proofs.pool_calls.granted_on.Goals as goal

pub get-size-requires : goal.get-size-requires
get-size-requires c = search (has-size, admits-book)

pub granted-requires : goal.granted-requires
granted-requires c = search admitted-pre

pub returns-then-is_admitted : goal.returns-then-is_admitted
returns-then-is_admitted c = search granted-is

pub returns : goal.returns
returns c = search granted-no
