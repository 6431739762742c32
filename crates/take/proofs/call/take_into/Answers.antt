use Rattle.take.proofs.TakeSteps.{whole-pre}
use Rattle.take.proofs.call.take_into.Goals as goal

pub take_within-requires : goal.take_within-requires
take_within-requires c = search whole-pre
