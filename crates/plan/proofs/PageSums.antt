-- The pages of all classes: one more take, and more takes of each.
use Rattle.facts.proofs.Prelude.{ℕ, zero, suc, ◌+◌, ◌≤◌, ◌<◌, arith, List, [], ◌∷◌, inl, inr, ◌≡◌, refl, ltb, ltb-true, ltb-false, ne_eqb, total, below, update, by_cases}
use Rattle.model.proofs.Update.{update_same, update_other}
use Rattle.plan.specs.Plan.{class_count, pages_for, pages_of}
use Rattle.plan.proofs.Rounding.{Moves, pages-more, pages-grow, pages-at, serves}

abbrev pub bump : (ℕ → ℕ) → ℕ → ℕ → ℕ
bump f k = update f k (suc (f k))

module _ (f : ℕ → ℕ) (k v : ℕ) where
  sum_past : (m : ℕ) → m ≤ k → total (λ c. pages_for c (update f k v c)) (below m) ≡ total (λ c. pages_for c (f c)) (below m)
  sum_past zero h = refl
  sum_past (suc m) h = rw (update_other f k m v (ne_eqb k m (omega arith))) (omega (arith, sum_past m (omega arith)))

  sum-at : (m : ℕ) → k < m → total (λ c. pages_for c (update f k v c)) (below m) + pages_for k (f k) ≡ total (λ c. pages_for c (f c)) (below m) + pages_for k v
  sum-at zero h = absurd (omega arith)
  sum-at (suc m) h =
      by_cases (ltb k m)
      (λ b. rw (update_other f k m v (ne_eqb k m (omega (arith, ltb-true k m b)))) (omega (arith, sum-at m (ltb-true k m b))))
      (λ b. let e : m ≡ k = omega (arith, ltb-false k m b) in rw (e, update_same f k v) (omega (arith, sum_past k (omega arith))))

pub pages-bump : (f : ℕ → ℕ) (k : ℕ) → k < class_count → pages_of (bump f k) + pages_for k (f k) ≡ pages_of f + pages_for k (suc (f k))
unfolding pages_of
pages-bump f k h = sum-at f k (suc (f k)) class_count h

pub pages-past : (f : ℕ → ℕ) (k : ℕ) → class_count ≤ k → pages_of (bump f k) ≡ pages_of f
unfolding pages_of
pages-past f k h = sum_past f k (suc (f k)) class_count h

pub bump-more : (f : ℕ → ℕ) (k : ℕ) → Moves k (pages_of f) (pages_of (bump f k))
bump-more f k = by_cases (ltb k class_count) (λ b. go (pages-bump f k (ltb-true k class_count b)) (pages-more k (f k))) (λ b. inl (pages-past f k (ltb-false k class_count b)))
  where
    go : pages_of (bump f k) + pages_for k (f k) ≡ pages_of f + pages_for k (suc (f k)) → Moves k (pages_for k (f k)) (pages_for k (suc (f k))) → Moves k (pages_of f) (pages_of (bump f k))
    go e (inl d) = inl (omega arith)
    go e (inr d) = inr (omega arith)

-- more takes need no fewer pages
pages_plus : (c t k : ℕ) → pages_for c t ≤ pages_for c (t + k)
pages_plus c t zero = let e : t + 0 ≡ t = omega arith in rw e (omega arith)
pages_plus c t (suc k) = let e : t + suc k ≡ suc (t + k) = omega arith in rw e (omega (arith, pages_plus c t k, pages-grow c (t + k)))

sum_plus : (f g : ℕ → ℕ) (l : List ℕ) → total (λ c. pages_for c (f c)) l ≤ total (λ c. pages_for c (f c + g c)) l
sum_plus f g [] = omega arith
sum_plus f g (c ∷ l) = omega (arith, pages_plus c (f c) (g c), sum_plus f g l)

pub pages-up : (f g : ℕ → ℕ) → pages_of f ≤ pages_of (λ c. f c + g c)
unfolding pages_of
pages-up f g = sum_plus f g (below class_count)

sum-none : (l : List ℕ) → total (λ c. pages_for c 0) l ≡ 0
sum-none [] = refl
sum-none (c ∷ l) = omega (arith, pages-at c 0 0 0 (omega arith) (serves c), sum-none l)

pub pages-none : pages_of (λ c. 0) ≡ 0
unfolding pages_of
pages-none = sum-none (below class_count)
