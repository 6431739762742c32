use Rattle.fields.proofs.Shifts.{places, placed-lt}
use Rattle.fields.proofs.bits.place_bits.Goals as goal

pub overflow_add-result : goal.overflow_add-result
overflow_add-result c = record { fits = search placed-lt }

pub returns : goal.returns
returns c = search places
