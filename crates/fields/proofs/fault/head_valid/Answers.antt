use Rattle.fields.proofs.Sound.{head-is, head-not}
use Rattle.fields.proofs.fault.head_valid.Goals as goal

pub returns-then-format_valid : goal.returns-then-format_valid
returns-then-format_valid c = search head-is

pub returns : goal.returns
returns c = search head-not
