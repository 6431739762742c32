-- A class near a size: where the lookup starts, so that one comparison gives the first fit. And the block size of a class by its id.
use Rattle.std.specs.Prelude.{ℕ, zero, suc, ◌+◌, ◌-◌, ◌*◌, ◌/◌, ◌<◌, min, ◌≡◌, Bool, false, cond, ◌&&◌, ◌||◌, List, [], ◌∷◌, leb, ltb, length, get_or}
use Rattle.classes.specs.Sizes.{small_sizes, medium_sizes, max_medium_size}
use Rattle.classes.specs.Lookup.{first_fit}

-- all entries before place r are below `low`, and the one at r or the next is not below `high`
unfoldable pub near : ℕ → ℕ → ℕ → List ℕ → Bool
near low high zero [] = false
near low high (suc r) [] = false
near low high zero (x ∷ xs) = leb high x || leb high (get_or xs 0 0)
near low high (suc r) (x ∷ xs) = ltb x low && near low high r xs

-- the first fit of a size is at r or right after it
pub record Near (size r : ℕ) (xs : List ℕ) : Type 0 where
  pub within : r < length xs
  pub fit : first_fit size xs ≡ cond (leb size (get_or xs r 0)) r (suc r)

-- steps of 32 bytes, then of 512: those up to 128 end at 4,096 bytes, those up to 152 at 16,384, the last at 65,472
unfoldable pub step_of : ℕ → ℕ
step_of size = cond (leb size 4096) ((size + 31) / 32) ((size + 61951) / 512)

abbrev pub last_step : ℕ
last_step = 248

-- a class, by its id, is near all sizes of a step
unfoldable pub entered : ℕ → ℕ → Bool
entered step id =
    cond (leb step 128) (near (32 * step - 31) (32 * step) id small_sizes)
    (cond (leb step 152) (near (512 * step - 61951) (512 * step - 61440) id small_sizes)
    (leb 64 id && near (512 * step - 61951) (min (512 * step - 61440) max_medium_size) (id - 64) medium_sizes))

-- the block size of a class by its id; past the last class it is the last one's
unfoldable pub block_bytes : ℕ → ℕ
block_bytes id = cond (ltb id 64) (get_or small_sizes id 16384) (get_or medium_sizes (id - 64) 65472)

-- its entry in the two tables
abbrev pub entry_in : List ℕ → List ℕ → ℕ → ℕ
entry_in small medium id = cond (ltb id 64) (get_or small id 0) (get_or medium (min (id - 64) 11) 0)
