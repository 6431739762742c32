use mathlib.Core.Path.{refl}
use Rattle.classes.specs.Sizes.{small_sizes}
use Rattle.classes.specs.Lookup.{first_fit, class_for_size, obeys}
use Rattle.classes.proofs.class_lut.small_classes.Goals as goal

-- `refl` is the test of the rule at every entry of the table.
pub returns : goal.returns
unfolding small_sizes first_fit class_for_size obeys
returns c = record { long = refl; every = refl }
