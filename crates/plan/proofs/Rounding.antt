-- Rounding up, and the runs that so many takes need.
use Rattle.facts.proofs.Prelude.{ℕ, zero, suc, ◌+◌, ◌-◌, ◌*◌, ◌≤◌, ◌<◌, arith, div-eq_of_lt-le, mul-le-mul}
use Rattle.facts.proofs.Prelude.{true, false, ◌⊎◌, inl, inr, ◌≡◌, refl, sym, ◌∙◌, ltb, lt-ltb, le-ltb, by_cases}
use Rattle.classes.specs.declared.Shape.{Shape}
use Rattle.classes.specs.Shape.{number_of, shape_of, small_shape, medium_shape}
use Rattle.classes.specs.way.Sound.{Sound}
use Rattle.classes.proofs.Shapes.{shape-sound}
use Rattle.plan.specs.Plan.{ceil, pages_for, class_count}

-- t takes and u more fill r runs of d takes
pub data Split (d t : ℕ) : Type 0 where
  split : (runs spare : ℕ) → t + spare ≡ runs * d → spare < d → Split d t

pub ceil-is : (d t r u : ℕ) → t + u ≡ r * d → u < d → ceil t d ≡ r
ceil-is d t r u e h = div-eq_of_lt-le d (omega arith) (omega arith)

pub splits : (d : ℕ) → 1 ≤ d → (t : ℕ) → Split d t
splits d h zero = split 0 0 (omega arith) (omega arith)
splits d h (suc t) = go (splits d h t)
  where
    go : Split d t → Split d (suc t)
    go (split r zero e l) = split (suc r) (d - 1) (omega arith) (omega arith)
    go (split r (suc u) e l) = split r u (omega arith) (omega arith)

-- the takes that a run of a shape serves
abbrev pub per : Shape → ℕ
per sh = ceil sh.capacity sh.batch

-- capacity c by takes of b blocks: the last take is not empty
pub per-low : (b c : ℕ) → 1 ≤ b → c ≤ ceil c b * b
per-low b c h = go (splits b h c)
  where
    go : Split b c → c ≤ ceil c b * b
    go (split r u e l) = rw (ceil-is b c r u e l) (omega arith)

pub per-high : (b c : ℕ) → 1 ≤ b → ceil c b * b < c + b
per-high b c h = go (splits b h c)
  where
    go : Split b c → ceil c b * b < c + b
    go (split r u e l) = rw (ceil-is b c r u e l) (omega arith)

pub per-some : (sh : Shape) → Sound sh → 1 ≤ per sh
per-some sh ok = go (per sh) (per-low sh.batch sh.capacity ok.gives)
  where
    go : (d : ℕ) → sh.capacity ≤ d * sh.batch → 1 ≤ d
    go zero h = absurd (omega (arith, ok.blocks))
    go (suc d) h = omega arith

-- one formula for both families
small-run : (c : ℕ) → ltb (number_of c) 64 ≡ true → ((shape_of c).batch ≡ 64) × ((shape_of c).pages ≡ 1)
unfolding shape_of small_shape
small-run c e = rw e (refl, refl)

medium-run : (c : ℕ) → ltb (number_of c) 64 ≡ false → (shape_of c).batch ≡ (shape_of c).capacity
unfolding shape_of medium_shape
medium-run c e = rw e

pub pages-are : (c t : ℕ) → pages_for c t ≡ ceil t (per (shape_of c)) * (shape_of c).pages
unfolding pages_for
pages-are c t =
    let ok = shape-sound c in
    let cap = (shape_of c).capacity in
    by_cases (ltb (number_of c) 64)
    (λ e. let s = small-run c e in rw (e, s.0, s.1) (omega arith))
    (λ e. let one : ceil cap (shape_of c).batch ≡ 1 = rw (medium-run c e) (ceil-is cap cap 1 0 (omega arith) (omega (arith, ok.blocks))) in
    rw (e, one, ceil-is 1 t t 0 (omega arith) (omega arith)))

-- the pages for t takes, by their runs
module _ (c : ℕ) where
  abbrev pub served : ℕ
  served = per (shape_of c)

  pub serves : 1 ≤ served
  serves = per-some (shape_of c) (shape-sound c)

  pub pages-at : (t r u : ℕ) → t + u ≡ r * served → u < served → pages_for c t ≡ r * (shape_of c).pages
  pages-at t r u e h = pages-are c t ∙ rw (ceil-is served t r u e h)

  -- one more take: the run has room for it, or one more run
  pub pages-same : (t r u : ℕ) → t + suc u ≡ r * served → suc u < served → pages_for c (suc t) ≡ pages_for c t
  pages-same t r u e l = pages-at (suc t) r u (omega arith) (omega arith) ∙ sym (pages-at t r (suc u) e l)

  pub pages-new : (t r : ℕ) → t + 0 ≡ r * served → pages_for c (suc t) ≡ pages_for c t + (shape_of c).pages
  pages-new t r e = let h = serves in omega (arith, pages-at t r 0 e h, pages-at (suc t) (suc r) (served - 1) (omega arith) (omega arith))

  abbrev pub Moves : ℕ → ℕ → Type 0
  Moves p p' = (p' ≡ p) ⊎ (p' ≡ p + (shape_of c).pages)

  pub pages-more : (t : ℕ) → Moves (pages_for c t) (pages_for c (suc t))
  pages-more t = go (splits served serves t)
    where
      go : Split served t → Moves (pages_for c t) (pages_for c (suc t))
      go (split r zero e l) = inr (pages-new t r e)
      go (split r (suc u) e l) = inl (pages-same t r u e l)

  pub pages-grow : (t : ℕ) → pages_for c t ≤ pages_for c (suc t)
  pages-grow t = go (pages-more t)
    where
      go : Moves (pages_for c t) (pages_for c (suc t)) → pages_for c t ≤ pages_for c (suc t)
      go (inl e) = omega arith
      go (inr e) = omega arith

-- the pages as the code has them, and a bound
pub small_is : (c t : ℕ) → c < 64 → ceil t (ceil (shape_of c).capacity 64) ≡ pages_for c t
unfolding pages_for
small_is c t h = rw (lt-ltb c class_count (omega arith), lt-ltb c 64 h)

pub medium-is : (c t : ℕ) → 64 ≤ c → c < class_count → t * (shape_of c).pages ≡ pages_for c t
unfolding pages_for
medium-is c t h l = rw (lt-ltb c class_count l, le-ltb c 64 h)

runs-low : (d r t u : ℕ) → t + u ≡ r * d → u < d → r ≤ t
runs-low d zero t u e l = omega arith
runs-low zero (suc r) t u e l = absurd (omega arith)
runs-low (suc d) (suc r) t u e l = omega arith

pub pages-low : (c t : ℕ) → pages_for c t ≤ t * 8
pages-low c t = go (splits (served c) (serves c) t)
  where
    go : Split (served c) t → pages_for c t ≤ t * 8
    go (split r u e l) = omega (arith, pages-at c t r u e l, mul-le-mul (runs-low (served c) r t u e l) (shape-sound c).short)
