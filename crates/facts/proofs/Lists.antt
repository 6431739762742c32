-- Facts on tests over lists: of every element, and of every number below a bound.
use Prim.Native.Nat.{ℕ, zero, suc, ◌-◌, ◌≤◌, ◌<◌}
use native.Mathlib.Omega.{arith}
use native.Mathlib.Numerals.{sub-one}
use mathlib.Core.Bool.{Bool, true}
use mathlib.Core.List.{List, [], ◌∷◌}
use mathlib.Core.Path.{◌≡◌, refl}
use lib.Dec.{eqb}
use lib.ListN.{length, get_or, drop}
use lib.Seq.{drop-nil}
use borrow.Author.Tests.{eqb-true, eqb-false}
use Rattle.facts.specs.Lists.{every, below}
use Rattle.facts.proofs.Bools.{by_cases, and_left, and_right}

pub drop_past : (xs : List ℕ) (i : ℕ) → length xs ≤ i → drop i xs ≡ []
drop_past [] i h = drop-nil i
drop_past (x ∷ xs) zero h = absurd (omega arith)
drop_past (x ∷ xs) (suc i) h = drop_past xs i (omega arith)

-- ---- of every element
pub every-same : {A : Type 0} (t u : A → Bool) (xs : List A) → ((x : A) → t x ≡ u x) → every t xs ≡ every u xs
every-same t u [] h = refl
every-same t u (x ∷ xs) h = rw (h x, every-same t u xs h)

pub every_get : (t : ℕ → Bool) (xs : List ℕ) (k : ℕ) → every t xs ≡ true → k < length xs → t (get_or xs k 0) ≡ true
every_get t [] k e l = absurd (omega arith)
every_get t (x ∷ xs) zero e l = and_left (t x) _ e
every_get t (x ∷ xs) (suc k) e l = every_get t xs k (and_right (t x) _ e) (omega arith)

pub every_made : (t : ℕ → Bool) (xs : List ℕ) → ((k : ℕ) → k < length xs → t (get_or xs k 0) ≡ true) → every t xs ≡ true
every_made t [] h = refl
every_made t (x ∷ xs) h = rw (h 0 (omega arith)) (every_made t xs (λ k l. h (suc k) (omega arith)))

-- ---- of every number below m
pub below_last : (i : ℕ) → 0 < i → below i ≡ (i - 1) ∷ below (i - 1)
below_last zero h = absurd (omega arith)
below_last (suc i) h = rw (sub-one (suc i))

pub every-at : (t : ℕ → Bool) (m k : ℕ) → every t (below m) ≡ true → k < m → t k ≡ true
every-at t zero k e h = absurd (omega arith)
every-at t (suc m) k e h =
    by_cases (eqb k m)
    (λ d. rw (eqb-true k m d) (and_left (t m) _ e))
    (λ d. let z : k ≡ m → ⊥ = eqb-false k m d in every-at t m k (and_right (t m) _ e) (omega (arith, z)))

pub every_of : (t : ℕ → Bool) (m : ℕ) → ((k : ℕ) → k < m → t k ≡ true) → every t (below m) ≡ true
every_of t zero h = refl
every_of t (suc m) h = rw (h m (omega arith)) (every_of t m (λ k l. h k (omega arith)))

pub every_cong : (s t : ℕ → Bool) (m : ℕ) → ((k : ℕ) → k < m → s k ≡ t k) → every s (below m) ≡ every t (below m)
every_cong s t zero h = refl
every_cong s t (suc m) h = rw (h m (omega arith), every_cong s t m (λ k l. h k (omega arith)))
