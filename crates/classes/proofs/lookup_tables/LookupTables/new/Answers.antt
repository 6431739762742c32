use mathlib.Core.Path.{refl}
use Rattle.classes.specs.Sizes.{small_sizes, medium_sizes}
use Rattle.classes.specs.Lookup.{first_fit, class_for_size, medium_class_for_size, obeys}
use Rattle.classes.proofs.lookup_tables.LookupTables.new.Goals as goal

-- `refl` is the test of the rule at every entry of a table.
pub invariant_of-result : goal.invariant_of-result
unfolding small_sizes medium_sizes first_fit class_for_size medium_class_for_size obeys
invariant_of-result c = record { small_lut = record { long = refl; every = refl }; medium_lut = record { long = refl; every = refl } }
