use Rattle.release.proofs.StretchSteps.{step_is}
use Rattle.std.proofs.Common.{rules}
use Rattle.release.proofs.marks.mark_stretch.Goals as goal

pub mark_along-requires : goal.mark_along-requires
mark_along-requires c = record { field_pre = search rules; near = search rules; i_in_bounds = search rules; step_value = search step_is }
