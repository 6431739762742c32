use Rattle.facts.proofs.Prelude.{arith, rules}
use Rattle.classes.proofs.Shapes.{some_bytes, most_bytes, small_shaped, medium_shaped}
use Rattle.classes.proofs.runs.named_shape.Goals as goal

pub inverse_of-inverse-requires : goal.inverse_of-inverse-requires
inverse_of-inverse-requires c = omega (arith, some_bytes _ _ c.block_bytes-size.ensures)

pub small_capacity_for-requires : goal.small_capacity_for-requires
small_capacity_for-requires c = omega (arith, some_bytes _ _ c.block_bytes-size.ensures)

pub returns-then-id-lt-NUM_CLASSES : goal.returns-then-id-lt-NUM_CLASSES
returns-then-id-lt-NUM_CLASSES c = small_shaped _ _ c.block_bytes-size.ensures _ _ (search rules) c.small_capacity_for.ensures c.inverse_of-inverse.ensures

pub span_pages_for-requires : goal.span_pages_for-requires
span_pages_for-requires c = search most_bytes

pub medium_capacity_for-capacity-requires : goal.medium_capacity_for-capacity-requires
medium_capacity_for-capacity-requires c = record { size_nonzero = omega (arith, some_bytes _ _ c.block_bytes-size.ensures); size_le_page_bytes = search most_bytes }

pub returns-else-id-lt-NUM_CLASSES : goal.returns-else-id-lt-NUM_CLASSES
returns-else-id-lt-NUM_CLASSES c =
    medium_shaped _ _ c.block_bytes-size.ensures _ _ _ (search rules) c.span_pages_for.ensures c.medium_capacity_for-capacity.ensures c.inverse_of-inverse.ensures
