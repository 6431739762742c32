use Rattle.release.proofs.OneSteps.{bit-has, stay-pre, put-pre, is-back, back-not_valid, back_not_ready}
use Rattle.release.proofs.one.back_one.Goals as goal

pub is_ready-requires : goal.is_ready-requires
is_ready-requires c = search bit-has

pub stays_valid-requires : goal.stays_valid-requires
stays_valid-requires c = search stay-pre

pub put_back-requires : goal.put_back-requires
put_back-requires c = search put-pre

pub returns-then-stays_valid : goal.returns-then-stays_valid
returns-then-stays_valid c = search is-back

pub returns-else-stays_valid : goal.returns-else-stays_valid
returns-else-stays_valid c = search back-not_valid

pub returns-else-is_ready : goal.returns-else-is_ready
returns-else-is_ready c = search back_not_ready
