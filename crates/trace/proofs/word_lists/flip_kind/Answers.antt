use Rattle.trace.proofs.StepWays.{flip_kind-one, flip_kind-two}
use Rattle.trace.proofs.word_lists.flip_kind.Goals as goal

pub returns-then-kind_of-eq-SMALL : goal.returns-then-kind_of-eq-SMALL
returns-then-kind_of-eq-SMALL c = search flip_kind-one

pub returns : goal.returns
returns c = search flip_kind-two
