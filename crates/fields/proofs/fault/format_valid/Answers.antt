use Rattle.fields.proofs.Sound.{format-is}
use Rattle.fields.proofs.fault.format_valid.Goals as goal

pub returns : goal.returns
returns c = search format-is
