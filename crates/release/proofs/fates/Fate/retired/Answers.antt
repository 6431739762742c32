use Rattle.release.proofs.Destinations.{number-fits}
use Rattle.release.proofs.fates.Fate.retired.Goals as goal

pub overflow_add-result : goal.overflow_add-result
overflow_add-result c = search number-fits
