-- The class of a size: first fit in a class table.
use Rattle.std.specs.Prelude.{ℕ, suc, ◌+◌, Bool, true, cond, ◌&&◌, List, [], ◌∷◌, ◌≡◌, leb, ltb, eqb, length}
use Rattle.classes.specs.declared.Sized.{Sized}
use Rattle.classes.specs.declared.Sized.TheVariants.{Small, Medium, TooLarge}
use Rattle.classes.specs.Sizes.{small_sizes, medium_sizes, max_small_size, max_medium_size}

-- the place of the first entry not below a size; the number of entries, if all are below
unfoldable pub first_fit : ℕ → List ℕ → ℕ
first_fit size [] = 0
first_fit size (entry ∷ rest) = cond (leb size entry) 0 (suc (first_fit size rest))

-- document 02, A.6: "one that answers small class, medium class, or too large"
unfoldable pub size_class : ℕ → Sized
size_class size =
    cond (leb size max_small_size) (Small (first_fit size small_sizes))
    (cond (leb size max_medium_size) (Medium (first_fit size medium_sizes)) TooLarge)

-- document 01's rules of the two lookup tables: first fit; above 16,384 it is 63
unfoldable pub class_for_size : ℕ → ℕ
class_for_size size = cond (leb size max_small_size) (first_fit size small_sizes) 63

-- first fit; at or below 16,384 and above 65,472 it is 11
unfoldable pub medium_class_for_size : ℕ → ℕ
medium_class_for_size size = cond (ltb max_small_size size && leb size max_medium_size) (first_fit size medium_sizes) 11

-- a lookup table has a rule's answer at every 16th size from one on
unfoldable pub obeys : (ℕ → ℕ) → ℕ → List ℕ → Bool
obeys rule size [] = true
obeys rule size (entry ∷ rest) = eqb entry (rule size) && obeys rule (size + 16) rest

-- a lookup table of so many entries
pub record Obeys (rule : ℕ → ℕ) (size many : ℕ) (lut : List ℕ) : Type 0 where
  pub long : length lut ≡ many
  pub every : obeys rule size lut ≡ true

abbrev pub SmallLut : List ℕ → Type 0
SmallLut = Obeys class_for_size 0 1025

abbrev pub MediumLut : List ℕ → Type 0
MediumLut = Obeys medium_class_for_size 16385 3069
