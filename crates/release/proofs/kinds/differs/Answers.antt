use Rattle.release.proofs.RunSteps.{kind_test}
use Rattle.release.proofs.kinds.differs.Goals as goal

pub returns : goal.returns
returns c = search kind_test
