-- Pages per span are the fewest that hold 8 blocks, for every size; the class of a size is the first that fits.
use Rattle.facts.proofs.Prelude.{ℕ, zero, suc, ◌-◌, ◌*◌, ◌/◌, ◌≤◌, ◌<◌, zero-le, suc-le-suc, arith, le-div_iff_mul-le, div-lt_iff_lt-mul, le_of_suc-le-suc}
use Rattle.facts.proofs.Prelude.{not-suc-le-zero, Bool, true, false, cond, List, [], ◌∷◌, ◌≡◌, refl, leb, length, get_or, leb-true, leb-false}
use mathlib.Core.Logic.{by_cases}
use native.Mathlib.Decide.{dec_le}
use Rattle.classes.specs.Sizes.{small_sizes, medium_sizes, max_small_size, max_medium_size, page_bytes, medium_header, span_pages, span_capacity}
use Rattle.classes.specs.Lookup.{first_fit, size_class}
use Rattle.classes.specs.Meaning.{FewestPages, FirstFit, Smallest}
use Rattle.classes.proofs.Answers.{sized-small, sized-medium, sized-large}

pub span-pages : (size : ℕ) → FewestPages size (span_pages size)
span-pages size = record { enough = omega arith; fewest = λ fewer h. omega arith }

-- counted in blocks: a span has 8 or more, and with fewer pages it would have less
pub span_holds_eight : (size : ℕ) → 0 < size → 8 ≤ span_capacity size
span_holds_eight size pos = (le-div_iff_mul-le pos).1 (omega arith)

pub fewer_hold_less : (size fewer : ℕ) → 0 < size → fewer < span_pages size → (fewer * page_bytes - medium_header) / size < 8
fewer_hold_less size fewer pos h = (div-lt_iff_lt-mul pos).1 (omega arith)

found : (size x : ℕ) (xs : List ℕ) (b : Bool) → leb size x ≡ b → (b ≡ false → FirstFit size xs (first_fit size xs)) → FirstFit size (x ∷ xs) (cond b 0 (suc (first_fit size xs)))
found size x xs true e rest = record { within = suc-le-suc zero-le; fits = leb-true size x e; first = λ j h. absurd (not-suc-le-zero h) }
found size x xs false e rest = record { within = suc-le-suc (rest refl).within; fits = (rest refl).fits; first = before }
  where
    before : (j : ℕ) → j < suc (first_fit size xs) → get_or (x ∷ xs) j 0 < size
    before zero h = leb-false size x e
    before (suc j) h = (rest refl).first j (le_of_suc-le-suc h)

-- where some entry is not below the size, there is a first one
pub first-fit : (size : ℕ) (xs : List ℕ) (k : ℕ) → k < length xs → size ≤ get_or xs k 0 → FirstFit size xs (first_fit size xs)
unfolding first_fit
first-fit size [] k l h = absurd (not-suc-le-zero l)
first-fit size (x ∷ xs) zero l h = found size x xs (leb size x) refl (λ e. absurd (omega (arith, leb-false size x e)))
first-fit size (x ∷ xs) (suc k) l h = found size x xs (leb size x) refl (λ e. first-fit size xs k (le_of_suc-le-suc l) h)

pub small-first_fit : (size : ℕ) → size ≤ max_small_size → FirstFit size small_sizes (first_fit size small_sizes)
unfolding small_sizes
small-first_fit size h = first-fit size small_sizes 63 (omega arith) (omega arith)

pub medium-first_fit : (size : ℕ) → size ≤ max_medium_size → FirstFit size medium_sizes (first_fit size medium_sizes)
unfolding medium_sizes
medium-first_fit size h = first-fit size medium_sizes 11 (omega arith) (omega arith)

-- what first fit answers is a class
pub small-class : (size : ℕ) → size ≤ max_small_size → first_fit size small_sizes < 64
unfolding small_sizes
small-class size h = (small-first_fit size h).within

pub medium-class : (size : ℕ) → size ≤ max_medium_size → first_fit size medium_sizes < 12
unfolding medium_sizes
medium-class size h = (medium-first_fit size h).within

-- "answers small class, medium class, or too large": the smallest class that is large enough, for every size
pub smallest_class : (size : ℕ) → Smallest size (size_class size)
smallest_class size =
    by_cases (dec_le size max_small_size) (λ h. rw (sized-small size h) (h, small-first_fit size h))
    (λ n. by_cases (dec_le size max_medium_size)
    (λ h. rw (sized-medium size (omega arith) h) ((omega arith, h), medium-first_fit size h))
    (λ m. rw (sized-large size (omega arith)) (omega arith)))
