-- What a tally asks before it grows.
use Rattle.std.specs.Prelude.{ℕ, ◌+◌, ◌*◌, ◌^◌, ◌<◌}
use Rattle.trace.specs.declared.tally.Tally.{Tally}

-- the tally after m more blocks of so many bytes each is one of 64-bit numbers
pub record MorePre (t : Tally) (m size : ℕ) : Type 0 where
  pub at : t.at + m < 2 ^ 64
  pub out : t.out + m < 2 ^ 64
  pub bytes : t.bytes + m * size < 2 ^ 64
