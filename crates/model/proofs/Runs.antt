-- Runs of pages, and the pages at or above a frontier.
use Rattle.facts.proofs.Prelude.{ℕ, ◌+◌, ◌-◌, ◌≤◌, ◌<◌, arith, ◌≡◌, ltb, ltb-true, ltb-false, le-leb, lt-leb, lt-ltb, le-ltb, by_cases}
use Rattle.model.specs.Cover.{in_run, covers}
use Rattle.model.specs.Ledger.{above}

module _ (n q x : ℕ) where
  pub covers_in : q ≤ x → x < q + n → covers n q x ≡ 1
  covers_in a b = rw (le-leb q x a, lt-ltb x (q + n) b)

  pub covers-before : x < q → covers n q x ≡ 0
  covers-before a = rw (lt-leb q x a)

  pub covers-after : q + n ≤ x → covers n q x ≡ 0
  covers-after a = rw (le-leb q x (omega arith), le-ltb x (q + n) a)

  pub covers-le : covers n q x ≤ 1
  covers-le = by_cases (in_run n q x) (λ e. rw e (omega arith)) (λ e. rw e (omega arith))

-- a run in two
pub covers-cut : (n m q x : ℕ) → n ≤ m → covers n q x + covers (m - n) (q + n) x ≡ covers m q x
covers-cut n m q x h =
    by_cases (ltb x q)
    (λ e. let l = ltb-true x q e in omega (arith, covers-before n q x l, covers-before m q x l, covers-before (m - n) (q + n) x (omega arith)))
    (λ e. let l = ltb-false x q e in
    by_cases (ltb x (q + n))
    (λ d. let k = ltb-true x (q + n) d in omega (arith, covers_in n q x l k, covers_in m q x l (omega arith), covers-before (m - n) (q + n) x k))
    (λ d. let k = ltb-false x (q + n) d in
    by_cases (ltb x (q + m))
    (λ c. let j = ltb-true x (q + m) c in omega (arith, covers-after n q x k, covers_in m q x l j, covers_in (m - n) (q + n) x k (omega arith)))
    (λ c. let j = ltb-false x (q + m) c in omega (arith, covers-after n q x k, covers-after m q x j, covers-after (m - n) (q + n) x (omega arith)))))

module _ (f x : ℕ) where
  pub above_at : f ≤ x → above f x ≡ 1
  above_at h = rw (le-leb f x h)

  pub above-not : x < f → above f x ≡ 0
  above-not h = rw (lt-leb f x h)

-- a run at the frontier
pub above-cut : (n f x : ℕ) → covers n f x + above (f + n) x ≡ above f x
above-cut n f x =
    by_cases (ltb x f)
    (λ e. let l = ltb-true x f e in omega (arith, covers-before n f x l, above-not f x l, above-not (f + n) x (omega arith)))
    (λ e. let l = ltb-false x f e in
    by_cases (ltb x (f + n))
    (λ d. let k = ltb-true x (f + n) d in omega (arith, covers_in n f x l k, above_at f x l, above-not (f + n) x k))
    (λ d. let k = ltb-false x (f + n) d in omega (arith, covers-after n f x k, above_at f x l, above_at (f + n) x k)))
