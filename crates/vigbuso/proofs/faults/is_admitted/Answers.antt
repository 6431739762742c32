use Rattle.std.proofs.Common.{refl}
use Rattle.vigbuso.proofs.FaultSteps.{numbered, admits-not, admits-by}
use Rattle.vigbuso.proofs.faults.is_admitted.Goals as goal

pub returns-in-Ok : goal.returns-in-Ok
returns-in-Ok c = admits-by _ _ _ c.in-Ok.ensures.fault refl

pub returns-in-Err : goal.returns-in-Err
returns-in-Err c = admits-not _ _ _ c.in-Err.ensures.fault (numbered _)
