-- From a class near a size to its first fit.
use Rattle.facts.proofs.Prelude.{ℕ, zero, suc, ◌+◌, ◌-◌, ◌*◌, ◌/◌, ◌≤◌, ◌<◌, min, zero-le, suc-le-suc, arith, add-one, Bool, true, false, cond, ◌||◌, false≢true, List}
use Rattle.facts.proofs.Prelude.{[], ◌∷◌, ◌≡◌, refl, sym, ap, ◌∙◌, leb, ltb, get_or, leb-true, leb-false, le-leb, lt-leb, ltb-true, lt-ltb, le-ltb, and_left, and_right}
use mathlib.Core.Logic.{by_cases}
use native.Mathlib.Decide.{dec_le}
use mir.Val.{bool_byte, Fits}
use mir.Syntax.{w32}
use Rattle.classes.specs.Sizes.{small_sizes, medium_sizes, max_small_size, max_medium_size}
use Rattle.classes.specs.Lookup.{first_fit}
use Rattle.classes.specs.Shape.{class_count}
use Rattle.classes.specs.way.Near.{near, Near, step_of, last_step, entered, block_bytes, entry_in}
use Rattle.classes.proofs.Table.{get_d_within, tail_at}
use Rattle.classes.proofs.Meaning.{small-class}

head-fits : (size : ℕ) (xs : List ℕ) → size ≤ get_or xs 0 0 → first_fit size xs ≡ 0
unfolding first_fit
head-fits size [] h = refl
head-fits size (x ∷ xs) h = rw (le-leb size x h)

from_start : (size high x : ℕ) (xs : List ℕ) (b : Bool) → leb size x ≡ b → (leb high x || leb high (get_or xs 0 0)) ≡ true → size ≤ high
    → cond b 0 (suc (first_fit size xs)) ≡ cond b 0 1
from_start size high x xs true e t h = refl
from_start size high x xs false e t h =
    let next : leb high (get_or xs 0 0) ≡ true = rw (lt-leb high x (omega (arith, leb-false size x e))) at t in
    ap suc (head-fits size xs (omega (arith, leb-true high (get_or xs 0 0) next)))

suc-cond : (b : Bool) (m n : ℕ) → suc (cond b m n) ≡ cond b (suc m) (suc n)
suc-cond true m n = refl
suc-cond false m n = refl

pub near-fit : (low high size r : ℕ) (xs : List ℕ) → near low high r xs ≡ true → low ≤ size → size ≤ high → Near size r xs
unfolding near first_fit
near-fit low high size zero [] t l h = absurd (false≢true t)
near-fit low high size (suc r) [] t l h = absurd (false≢true t)
near-fit low high size zero (x ∷ xs) t l h = record { within = suc-le-suc zero-le; fit = from_start size high x xs (leb size x) refl t h }
near-fit low high size (suc r) (x ∷ xs) t l h =
    let below = ltb-true x low (and_left (ltb x low) (near low high r xs) t) in
    let rest = near-fit low high size r xs (and_right (ltb x low) (near low high r xs) t) l h in
    record { within = suc-le-suc rest.within; fit = rw (lt-leb size x (omega arith)) (ap suc rest.fit ∙ suc-cond (leb size (get_or xs r 0)) r (suc r)) }

pub step_of_32 : (size step : ℕ) → size ≤ 4096 → step ≡ (size + 31) / 32 → step ≡ step_of size
unfolding step_of
step_of_32 size step h e = rw (le-leb size 4096 h) e

pub step_of_512 : (size step : ℕ) → 4096 < size → step ≡ (size + 61951) / 512 → step ≡ step_of size
unfolding step_of
step_of_512 size step h e = rw (lt-leb size 4096 h) e

-- every size's step has an entry
pub step-within : (size : ℕ) → size ≤ max_medium_size → step_of size ≤ last_step
step-within size m =
    by_cases (dec_le size 4096)
    (λ h. omega (arith, step_of_32 size _ h refl))
    (λ n. omega (arith, step_of_512 size _ (omega arith) refl))

-- the entry of a size's step is near the size
module _ (size id : ℕ) (t : entered (step_of size) id ≡ true) where
  small-near : size ≤ max_small_size → Near size id small_sizes
  unfolding entered step_of
  small-near h =
      by_cases (dec_le size 4096)
      (λ s. let step = (size + 31) / 32 in
      near-fit (32 * step - 31) (32 * step) size id small_sizes (rw (le-leb size 4096 s, le-leb step 128 (omega arith)) at t) (omega arith) (omega arith))
      (λ n. let step = (size + 61951) / 512 in
      near-fit (512 * step - 61951) (512 * step - 61440) size id small_sizes
      (rw (lt-leb size 4096 (omega arith), lt-leb step 128 (omega arith), le-leb step 152 (omega arith)) at t) (omega arith) (omega arith))

  medium-near : max_small_size < size → size ≤ max_medium_size → (64 ≤ id) × Near size (id - 64) medium_sizes
  unfolding entered step_of
  medium-near l h =
      let step = (size + 61951) / 512 in
      let u = rw (lt-leb size 4096 (omega arith), lt-leb step 128 (omega arith), lt-leb step 152 (omega arith)) at t in (
        leb-true 64 id (and_left (leb 64 id) _ u),
        near-fit (512 * step - 61951) (min (512 * step - 61440) max_medium_size) size (id - 64) medium_sizes (and_right (leb 64 id) _ u) (omega arith) (omega arith),
      )

-- ---- the block size of a class, as it is read
pub small_bytes : (id : ℕ) → id < 64 → block_bytes id ≡ get_or small_sizes id 16384
unfolding block_bytes
small_bytes id h = rw (lt-ltb id 64 h)

pub medium-bytes : (id : ℕ) → 64 ≤ id → block_bytes id ≡ get_or medium_sizes (id - 64) 65472
unfolding block_bytes
medium-bytes id h = rw (le-ltb id 64 h)

last-medium : (k : ℕ) → get_or medium_sizes (min k 11) 0 ≡ get_or medium_sizes k 65472
unfolding medium_sizes
last-medium k =
    by_cases (dec_le k 11)
    (λ h. let e : min k 11 ≡ k = omega arith in rw e (get_d_within medium_sizes 0 65472 k (omega arith)))
    (λ n. let e : min k 11 ≡ 11 = omega arith in rw e (sym (tail_at medium_sizes 11 65472 k (omega arith) refl)))

any_small : (k : ℕ) → k < 64 → get_or small_sizes k 0 ≡ get_or small_sizes k 16384
unfolding small_sizes
any_small k h = get_d_within small_sizes 0 16384 k h

pub entry-bytes : (id : ℕ) → entry_in small_sizes medium_sizes id ≡ block_bytes id
unfolding block_bytes
entry-bytes id =
    by_cases (dec_le 64 id)
    (λ h. rw (le-ltb id 64 h) (last-medium (id - 64)))
    (λ n. let h : id < 64 = omega arith in rw (lt-ltb id 64 h) (any_small id h))

-- ---- what the code asks
module _ (size step id : ℕ) (e : step ≡ step_of size) (t : entered step id ≡ true) where
  near_step : entered (step_of size) id ≡ true
  near_step = rw e at t

  small-within : size ≤ max_small_size → id < 64
  unfolding small_sizes
  small-within h = (small-near size id near_step h).within

  medium-within : max_small_size < size → size ≤ max_medium_size → (64 ≤ id) × (id - 64 < 12)
  unfolding medium_sizes
  medium-within l h = let z = medium-near size id near_step l h in (z.0, z.1.within)

  pub class_low : size ≤ max_medium_size → id < class_count
  class_low h = by_cases (dec_le size max_small_size) (λ s. omega (arith, small-within s)) (λ n. omega (arith, (medium-within (omega arith) h).0, (medium-within (omega arith) h).1))

  module _ (bytes past : ℕ) (b : bytes ≡ block_bytes id) (p : past ≡ bool_byte (ltb bytes size)) where
    -- the class near, or the next
    abbrev r : ℕ
    r = id + past

    f : r ≡ cond (leb size bytes) id (id + 1)
    f =
        by_cases (dec_le size bytes)
        (λ h. rw (p, le-leb size bytes h, le-ltb bytes size h) (omega arith))
        (λ n. let h : bytes < size = omega arith in rw (p, lt-leb size bytes h, lt-ltb bytes size h))

    pub class-fits : size ≤ max_medium_size → Fits w32 r
    class-fits m =
        by_cases (dec_le size bytes)
        (λ h. record { fits = omega (arith, class_low m, rw (le-leb size bytes h) at f) })
        (λ n. record { fits = omega (arith, class_low m, rw (lt-leb size bytes (omega arith)) at f) })

    small-fit : size ≤ max_small_size → r ≡ first_fit size small_sizes
    unfolding small_sizes
    small-fit h =
        let z = b ∙ small_bytes id (small-within h) ∙ get_d_within small_sizes 16384 0 id (small-within h) in
        f ∙ rw (z, add-one) (sym (small-near size id near_step h).fit)

    medium-fit : max_small_size < size → size ≤ max_medium_size → r ≡ 64 + first_fit size medium_sizes
    unfolding medium_sizes
    medium-fit l h =
        let w = medium-within l h in
        let z = b ∙ medium-bytes id w.0 ∙ get_d_within medium_sizes 65472 0 (id - 64) w.1 in
        let i : id ≡ 64 + (id - 64) = omega (arith, w.0) in
        f ∙ by (leb size bytes) (ap (leb size) z) i ∙ ap (λ k. 64 + k) (sym (medium-near size id near_step l h).1.fit)
      where
        by : (t : Bool) → t ≡ leb size (get_or medium_sizes (id - 64) 0) → id ≡ 64 + (id - 64) → cond t id (id + 1) ≡ 64 + cond (leb size (get_or medium_sizes (id - 64) 0)) (id - 64) (suc (id - 64))
        by true d i = rw (← d) i
        by false d i = rw (← d) (omega (arith, i))

    pub fit_small : size ≤ max_medium_size → r < 64 → (size ≤ max_small_size) × (r ≡ first_fit size small_sizes)
    fit_small m h = by_cases (dec_le size max_small_size) (λ s. (s, small-fit s)) (λ n. absurd (omega (arith, medium-fit (omega arith) m)))

    pub fit-medium : size ≤ max_medium_size → 64 ≤ r → (max_small_size < size) × (r - 64 ≡ first_fit size medium_sizes)
    fit-medium m h =
        by_cases (dec_le size max_small_size)
        (λ s. absurd (omega (arith, small-fit s, small-class size s)))
        (λ n. (omega arith, omega (arith, medium-fit (omega arith) m)))
