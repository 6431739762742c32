use Rattle.direct.proofs.CallSteps.{give_in, released, released-not}
use Rattle.direct.proofs.calls.release_held.Goals as goal

pub give-requires : goal.give-requires
give-requires c = search give_in

pub returns-then-give_valid : goal.returns-then-give_valid
returns-then-give_valid c = search released

pub returns : goal.returns
returns c = search released-not
