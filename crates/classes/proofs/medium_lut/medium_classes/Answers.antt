use mathlib.Core.Path.{refl}
use Rattle.classes.specs.Sizes.{medium_sizes}
use Rattle.classes.specs.Lookup.{first_fit, medium_class_for_size, obeys}
use Rattle.classes.proofs.medium_lut.medium_classes.Goals as goal

-- `refl` is the test of the rule at every entry of the table.
pub returns : goal.returns
unfolding medium_sizes first_fit medium_class_for_size obeys
returns c = record { long = refl; every = refl }
