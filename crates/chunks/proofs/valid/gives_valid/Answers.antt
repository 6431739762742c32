use Rattle.chunks.proofs.ValidSteps.{runs-pre, given-fits, none-given, some-given}
use Rattle.chunks.proofs.valid.gives_valid.Goals as goal

pub runs_given-requires : goal.runs_given-requires
runs_given-requires c = search runs-pre

pub overflow_mul-given : goal.overflow_mul-given
overflow_mul-given c = search given-fits

pub returns-then-given-eq0 : goal.returns-then-given-eq0
returns-then-given-eq0 c = search none-given

pub returns-else-given-eq0 : goal.returns-else-given-eq0
returns-else-given-eq0 c = search some-given
