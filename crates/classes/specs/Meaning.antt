-- What the rules of `Sizes` and `Lookup` mean, apart from how they are computed.
use Rattle.std.specs.Prelude.{ℕ, ◌+◌, ◌*◌, ◌≤◌, ◌<◌, List, length, get_or}
use Rattle.classes.specs.declared.Sized.{Sized}
use Rattle.classes.specs.declared.Sized.TheVariants.{Small, Medium, TooLarge}
use Rattle.classes.specs.Sizes.{small_sizes, medium_sizes, max_small_size, max_medium_size, page_bytes, medium_header}

-- "the fewest that hold 8 blocks after 64 bytes"
pub record FewestPages (size pages : ℕ) : Type 0 where
  pub enough : medium_header + 8 * size ≤ pages * page_bytes
  pub fewest : (fewer : ℕ) → fewer < pages → fewer * page_bytes < medium_header + 8 * size

-- "first entry not below the size"
pub record FirstFit (size : ℕ) (table : List ℕ) (class : ℕ) : Type 0 where
  pub within : class < length table
  pub fits : size ≤ get_or table class 0
  pub first : (earlier : ℕ) → earlier < class → get_or table earlier 0 < size

-- document 02, A.6: the smallest class that is large enough, small before medium; too large exactly if no class is
abbrev pub Smallest : ℕ → Sized → Type 0
Smallest size (Small class) = (size ≤ max_small_size) × FirstFit size small_sizes class
Smallest size (Medium class) = ((max_small_size < size) × (size ≤ max_medium_size)) × FirstFit size medium_sizes class
Smallest size TooLarge = max_medium_size < size
