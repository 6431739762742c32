use Rattle.runs.proofs.GiveSteps.{enough, back_in, given_is}
use Rattle.runs.proofs.give.give.Goals as goal

pub give_run-requires : goal.give_run-requires
give_run-requires c = search back_in

pub overflow_sub-held : goal.overflow_sub-held
overflow_sub-held c = search enough

pub returns : goal.returns
returns c = search given_is
