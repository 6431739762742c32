-- The examples of the lookup hold: one statement over their table.
use Rattle.facts.proofs.Prelude.{map, ◌≡◌, refl}
use Rattle.classes.specs.Sizes.{small_sizes, medium_sizes}
use Rattle.classes.specs.Lookup.{first_fit, size_class}
use Rattle.classes.specs.Examples.{examples, answer, expected}

pub examples_hold : map answer examples ≡ map expected examples
unfolding small_sizes medium_sizes first_fit size_class examples
examples_hold = refl
