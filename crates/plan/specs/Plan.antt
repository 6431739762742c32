-- The pages that a plan of takes needs (document 02, A.1 and A.6). A plan is two lists: sizes in bytes, and the takes of each.
use Rattle.std.specs.Prelude.{ℕ, ◌+◌, ◌-◌, ◌*◌, ◌/◌, List, [], ◌∷◌, Bool, cond, not, ◌&&◌, ◌||◌, eqb, leb, ltb, length}
use Rattle.facts.specs.Lists.{total, below, every}
use Rattle.classes.specs.declared.Sized.{Sized}
use Rattle.classes.specs.declared.Sized.TheVariants.{Small, Medium, TooLarge}
use Rattle.classes.specs.Sizes.{max_medium_size}
use Rattle.classes.specs.Shape.{number_of, shape_of}
pub use Rattle.classes.specs.Shape.{class_count}
use Rattle.classes.specs.Lookup.{size_class}

abbrev pub id_of : Sized → ℕ
id_of (Small class) = class
id_of (Medium class) = 64 + class
id_of TooLarge = class_count

-- A.6: "The plan of A.1 now takes a size where it took a class"
unfoldable pub class_of : ℕ → ℕ
class_of size = id_of (size_class size)

-- a division rounded up
abbrev pub ceil : ℕ → ℕ → ℕ
ceil n d = (n + (d - 1)) / d

-- "A page of capacity c serves c / 64 takes, rounded up; a medium take needs its span."
unfoldable pub pages_for : ℕ → ℕ → ℕ
pages_for c t = cond (ltb (number_of c) 64) (ceil t (ceil (shape_of c).capacity 64)) (t * (shape_of c).pages)

-- the pages for so many takes of each class
unfoldable pub pages_of : (ℕ → ℕ) → ℕ
pages_of f = total (λ c. pages_for c (f c)) (below class_count)

-- "A class named twice has its takes added first."
abbrev pub takes_of : List ℕ → List ℕ → ℕ → ℕ
takes_of [] ts c = 0
takes_of (k ∷ ks) [] c = 0
takes_of (k ∷ ks) (t ∷ ts) c = cond (eqb (class_of k) c) t 0 + takes_of ks ts c

-- "The answer is the total"
unfoldable pub plan_total : List ℕ → List ℕ → ℕ
plan_total ks ts = pages_of (takes_of ks ts)

-- document 02's limits of a plan
abbrev pub entries_max : ℕ
entries_max = 4096

abbrev pub takes_max : ℕ
takes_max = 1000000

-- 14. "when the plan is empty, has lists of unequal length or above 4,096 entries, names a class above 75 or has a number above 1,000,000";
-- A.6: "14 then covers a size that is too large in place of a class above 75"
unfoldable pub bad_plan : List ℕ → List ℕ → Bool
bad_plan ks ts =
    eqb (length ks) 0 || (not (eqb (length ks) (length ts)) || (ltb entries_max (length ks)
    || not (every (λ k. leb k max_medium_size) ks && every (λ t. leb t takes_max) ts)))
