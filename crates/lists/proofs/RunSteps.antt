-- The ways out of the functions on runs, and what their loops keep.
use Rattle.facts.proofs.Prelude.{ℕ, suc, ◌+◌, ◌-◌, ◌≤◌, ◌<◌, arith, add-one, List}
use Rattle.facts.proofs.Prelude.{◌≡◌, refl, sym, ◌∙◌, length}
use Rattle.fields.specs.Field.{page, first, put}
use Rattle.fields.proofs.Laws.{length-put}
use Rattle.pages.specs.Runs.{name_run}

-- ---- the run's pages name its first
pub record NameInv (b₀ : List ℕ) (q m : ℕ) (b : List ℕ) (x : ℕ) : Type 0 where
  pub within : x ≤ q + m
  pub long : length b ≡ length b₀
  pub rest : name_run b q x (q + m - x) ≡ name_run b₀ q q m

name-step : (b : List ℕ) (q x n k : ℕ) → n ≡ suc k → name_run b q x n ≡ name_run (put b (page first x) q) q (x + 1) k
unfolding name_run
name-step b q x n k h = rw (h, add-one)

pub name-start : (b₀ : List ℕ) (q m : ℕ) → NameInv b₀ q m b₀ q
name-start b₀ q m = let e : q + m - q ≡ m = omega arith in record { within = omega arith; long = refl; rest = rw e }

pub name-again : (b₀ : List ℕ) (q m : ℕ) (b b' : List ℕ) (x : ℕ) → x < q + m → NameInv b₀ q m b x → b' ≡ put b (page first x) q → NameInv b₀ q m b' (x + 1)
name-again b₀ q m b b' x h i e =
    record { within = omega arith; long = rw e (length-put b (page first x) q ∙ i.long); rest = rw e (sym (name-step b q x (q + m - x) (q + m - (x + 1)) (omega arith)) ∙ i.rest) }

pub name_done : (b₀ : List ℕ) (q m : ℕ) (b : List ℕ) (x : ℕ) → q + m ≤ x → NameInv b₀ q m b x → b ≡ name_run b₀ q q m
unfolding name_run
name_done b₀ q m b x h i = let e : q + m - x ≡ 0 = omega arith in rw e at i.rest
