-- The three answers of the lookup, and the lookup tables' rules where the tables are read.
use Rattle.facts.proofs.Prelude.{ℕ, ◌+◌, ◌-◌, ◌*◌, ◌/◌, ◌≤◌, ◌<◌, arith, zero-add, List, ◌≡◌, sym, ap, ◌∙◌, get_or, le-leb, lt-leb, lt-ltb}
use Rattle.classes.specs.declared.Sized.TheVariants.{Small, Medium, TooLarge}
use Rattle.classes.specs.Sizes.{small_sizes, medium_sizes, max_small_size, max_medium_size}
use Rattle.classes.specs.Lookup.{first_fit, size_class, class_for_size, medium_class_for_size, SmallLut, MediumLut}
use Rattle.classes.proofs.Table.{obeys-at}
use Rattle.classes.proofs.Rounding.{small_rounded, medium_rounded}

pub sized-small : (size : ℕ) → size ≤ max_small_size → size_class size ≡ Small (first_fit size small_sizes)
unfolding size_class
sized-small size h = rw (le-leb size max_small_size h)

pub sized-medium : (size : ℕ) → max_small_size < size → size ≤ max_medium_size → size_class size ≡ Medium (first_fit size medium_sizes)
unfolding size_class
sized-medium size l h = rw (lt-leb size max_small_size l, le-leb size max_medium_size h)

pub sized-large : (size : ℕ) → max_medium_size < size → size_class size ≡ TooLarge
unfolding size_class
sized-large size l = rw (lt-leb size max_small_size (omega arith), lt-leb size max_medium_size l)

pub is-small : (size r : ℕ) → size ≤ max_small_size → r ≡ first_fit size small_sizes → Small r ≡ size_class size
is-small size r h e = ap Small e ∙ sym (sized-small size h)

pub is-medium : (size r : ℕ) → max_small_size < size → size ≤ max_medium_size → r ≡ first_fit size medium_sizes → Medium r ≡ size_class size
is-medium size r l h e = ap Medium e ∙ sym (sized-medium size l h)

pub is-large : (size : ℕ) → max_medium_size < size → TooLarge ≡ size_class size
is-large size l = sym (sized-large size l)

small_rule : (size : ℕ) → size ≤ max_small_size → class_for_size size ≡ first_fit size small_sizes
unfolding class_for_size
small_rule size h = rw (le-leb size max_small_size h)

medium_rule : (size : ℕ) → max_small_size < size → size ≤ max_medium_size → medium_class_for_size size ≡ first_fit size medium_sizes
unfolding medium_class_for_size
medium_rule size l h = rw (lt-ltb max_small_size size l, le-leb size max_medium_size h)

-- at the place of its granules a table has the class of a size
pub in_small : (lut : List ℕ) (size r : ℕ) → SmallLut lut → r ≡ get_or lut ((size + 15) / 16) 0 → size ≤ max_small_size → Small r ≡ size_class size
in_small lut size r t e h =
    is-small size r h
    (e ∙ rw zero-add at (obeys-at class_for_size 0 lut ((size + 15) / 16) t.every (omega (arith, t.long))) ∙ small_rule (16 * ((size + 15) / 16)) (omega arith)
    ∙ small_rounded (16 * ((size + 15) / 16)) size (omega arith))

pub in_medium : (lut : List ℕ) (size r : ℕ) → MediumLut lut → r ≡ get_or lut ((size - 16385) / 16) 0 → max_small_size < size → size ≤ max_medium_size → Medium r ≡ size_class size
in_medium lut size r t e m h =
    let near = 16385 + 16 * ((size - 16385) / 16) in
    is-medium size r m h
    (e ∙ obeys-at medium_class_for_size 16385 lut ((size - 16385) / 16) t.every (omega (arith, t.long)) ∙ medium_rule near (omega arith) (omega arith) ∙ medium_rounded near size (omega arith))
