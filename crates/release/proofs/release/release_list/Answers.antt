use Rattle.release.proofs.OneSteps.{shape-pre, of_class_lem}
use Rattle.release.proofs.release.release_list.Goals as goal

pub release_shaped-requires : goal.release_shaped-requires
release_shaped-requires c = search shape-pre

pub returns : goal.returns
returns c = search of_class_lem
