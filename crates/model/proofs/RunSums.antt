-- Runs with no page at or above a frontier within the arena count all their pages in it.
use Rattle.facts.proofs.Prelude.{ℕ, zero, suc, ◌+◌, ◌*◌, ◌≤◌, arith, Bool, true, false, cond, List, [], ◌∷◌, Option}
use Rattle.facts.proofs.Prelude.{none, some, ◌≡◌, ◌∙◌, ltb, length, ltb-true, ltb-false, total, below, by_cases}
use Rattle.model.specs.Cover.{covers, covers_run}
use Rattle.model.specs.Heap.{run_with}
use Rattle.model.specs.Ledger.{above}
use Rattle.model.specs.Held.{run_pages}
use Rattle.model.proofs.Runs.{covers-before, covers-after}
use Rattle.model.proofs.Sums.{zeros, total_plus, total-same, covers-total}
use Rattle.model.proofs.IdlePages.{run-below}

module _ (size f : ℕ) (low : f ≤ size) where
  covers-none : (q x : ℕ) → covers 0 q x ≡ 0
  covers-none q x = by_cases (ltb x q) (λ e. covers-before 0 q x (ltb-true x q e)) (λ e. covers-after 0 q x (omega (arith, ltb-false x q e)))

  pub run-sum : (n q : ℕ) → ((x : ℕ) → covers n q x + above f x ≤ 1) → total (covers n q) (below size) ≡ n
  run-sum zero q k = total-same (covers 0 q) (λ x. 0) (below size) (covers-none q) ∙ zeros (below size)
  run-sum (suc n) q k = covers-total (suc n) q size (omega (arith, run-below (suc n) q f (omega arith) k))

  -- several runs of n pages
  pub runs-sum : {A : Type 0} (first : A → ℕ) (n : ℕ) (ps : List A) → ((x : ℕ) → total (λ p. covers n (first p) x) ps + above f x ≤ 1)
      → total (λ x. total (λ p. covers n (first p) x) ps) (below size) ≡ length ps * n
  runs-sum first n [] k = omega (arith, zeros (below size))
  runs-sum first n (p ∷ ps) k =
      omega (
        arith,
        total_plus (covers n (first p)) (λ x. total (λ p. covers n (first p) x) ps) (below size),
        run-sum n (first p) (λ x. omega (arith, k x)),
        runs-sum first n ps (λ x. omega (arith, k x)),
      )

  -- a run or none
  pub given-sum : (n : ℕ) (g : Option ℕ) → ((x : ℕ) → covers_run n g x + above f x ≤ 1) → total (covers_run n g) (below size) ≡ run_pages (run_with n g)
  given-sum n none k = zeros (below size)
  given-sum n (some q) k = run-sum n q k

  pub grown-sum : (t : Bool) (n e : ℕ) → ((x : ℕ) → cond t (covers n e x) 0 + above f x ≤ 1) → total (λ x. cond t (covers n e x) 0) (below size) ≡ cond t n 0
  grown-sum true n e k = run-sum n e k
  grown-sum false n e k = zeros (below size)
