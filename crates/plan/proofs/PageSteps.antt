-- The steps of `pages_for` and `sum_pages`.
use Rattle.facts.proofs.Prelude.{ℕ, ◌+◌, ◌*◌, ◌/◌, ◌^◌, ◌≤◌, ◌<◌, arith, add-one, List, ◌≡◌, refl, sym, ap, ◌∙◌, get_or, total, below, div-eq_of_lt-le}
use Rattle.std.specs.Int.{div_ceil}
use Rattle.std.proofs.lemmas.Grind.{div_ceil_times}
use Rattle.classes.specs.declared.Shape.{Shape}
use Rattle.classes.specs.Shape.{shape_of}
use Rattle.classes.proofs.Shapes.{shape-sound}
use Rattle.plan.specs.Plan.{class_count, ceil, pages_for, pages_of}
use Rattle.plan.specs.Code.{sum_max, Low}
use Rattle.plan.proofs.Rounding.{small_is, medium-is, pages-low}

-- ---- pages_for
-- the library's division rounded up is the plan's
ceils : (n d : ℕ) → 0 < d → div_ceil n d ≡ ceil n d
ceils n d h = let z = div_ceil_times n d h in sym (div-eq_of_lt-le {k = div_ceil n d} d (omega (arith, z.1)) (omega (arith, z.0)))

module _ (c t : ℕ) (s : Shape) (e : s ≡ shape_of c) where
  module _ (k p : ℕ) (ek : k ≡ s.capacity) (ep : p ≡ div_ceil k 64) where
    per-is : p ≡ ((shape_of c).capacity + 63) / 64
    per-is = ep ∙ ceils k 64 (omega arith) ∙ rw (ek, e)

    pub per-there : 0 < p
    per-there = omega (arith, per-is, (shape-sound c).blocks)

    pub small-pages : (r : ℕ) → r ≡ div_ceil t p → c < 64 → (r ≡ pages_for c t) × (r ≤ t * 8)
    small-pages r er h =
        let is : r ≡ pages_for c t = er ∙ ceils t p per-there ∙ rw per-is (small_is c t h) in
        (is, omega (arith, is, pages-low c t))

  module _ (m : ℕ) (em : m ≡ s.pages) (h : 64 ≤ c) (k : c < class_count) where
    pub medium-pages : (t * m ≡ pages_for c t) × (t * m ≤ t * 8)
    medium-pages =
        let is : t * m ≡ pages_for c t = rw (em, e) (medium-is c t h k) in
        (is, omega (arith, is, pages-low c t))

    pub medium-fits : t ≤ sum_max → t * m < 2 ^ 64
    medium-fits l = omega (arith, medium-pages)

-- ---- sum_pages
pub record SumInv (ss : List ℕ) (sum c : ℕ) : Type 0 where
  pub at : c ≤ class_count
  pub is : sum ≡ total (λ k. pages_for k (get_or ss k 0)) (below c)
  pub low : sum ≤ c * (sum_max * 8)

pub sum-start : (ss : List ℕ) → SumInv ss 0 0
sum-start ss = record { at = omega arith; is = refl; low = omega arith }

pub sum-next : (ss : List ℕ) (sum c r : ℕ) → SumInv ss sum c → c < class_count → Low ss → (r ≡ pages_for c (get_or ss c 0)) × (r ≤ get_or ss c 0 * 8) → SumInv ss (sum + r) (c + 1)
sum-next ss sum c r v h l e = record { at = omega arith; is = rw add-one (omega (arith, v.is, e.0)); low = omega (arith, v.low, l c h, e.1) }

pub sum-end : (ss : List ℕ) (sum c : ℕ) → SumInv ss sum c → class_count ≤ c → sum ≡ pages_of (λ k. get_or ss k 0)
unfolding pages_of
sum-end ss sum c v h = let e : c ≡ class_count = omega (arith, v.at) in v.is ∙ ap (λ m. total (λ k. pages_for k (get_or ss k 0)) (below m)) e
