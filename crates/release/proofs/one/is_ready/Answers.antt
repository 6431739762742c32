use Rattle.release.proofs.OneSteps.{not-ready, ready_if}
use Rattle.release.proofs.one.is_ready.Goals as goal

pub returns-then-bit-ne1 : goal.returns-then-bit-ne1
returns-then-bit-ne1 c = search not-ready

pub returns : goal.returns
returns c = search ready_if
