-- The plan worked by hand, by computing.
use mathlib.Core.Path.{refl}
use Rattle.classes.specs.Shape.{shape_of, small_shape, medium_shape}
use Rattle.classes.specs.Sizes.{small_sizes, medium_sizes}
use Rattle.classes.specs.Lookup.{first_fit, size_class}
use Rattle.plan.specs.Plan.{plan_total, pages_of, pages_for, class_of}
use Rattle.plan.specs.Examples.{Worked}

pub worked : Worked
unfolding plan_total pages_of pages_for class_of first_fit size_class shape_of small_shape medium_shape small_sizes medium_sizes
worked = refl
