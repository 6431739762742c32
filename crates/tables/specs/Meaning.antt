-- What one size and the next have to do with each other, apart from how it is computed.
use Rattle.std.specs.Prelude.{ℕ, ◌*◌, ◌≤◌, ◌⊎◌, ◌≡◌}
use Rattle.classes.specs.Sizes.{granule_bytes}

-- "divided by b, rounded up": the least number whose b-fold is not below n
pub record RoundedUp (n b q : ℕ) : Type 0 where
  pub enough : n ≤ q * b
  pub least : (p : ℕ) → n ≤ p * b → q ≤ p

-- "each size times a is divided by b, rounded up, then up to a multiple of 16, cut at the top"
pub record Grows (a b top size next : ℕ) : Type 0 where
  pub grown : ℕ
  pub granules : ℕ
  pub divided : RoundedUp (size * a) b grown
  pub whole : RoundedUp grown granule_bytes granules
  pub cut : ((granules * granule_bytes ≤ top) × (next ≡ granules * granule_bytes)) ⊎ ((top ≤ granules * granule_bytes) × (next ≡ top))
