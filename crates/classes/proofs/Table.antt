-- A rule of a table, proved at all of its entries by one test that antt computes, one entry after the other.
use Rattle.facts.proofs.Prelude.{ℕ, zero, suc, ◌+◌, ◌*◌, ◌≤◌, ◌<◌, arith, add-zero, mul-zero, le_of_suc-le-suc, not-suc-le-zero, Bool}
use Rattle.facts.proofs.Prelude.{true, List, [], ◌∷◌, ◌≡◌, refl, eqb, length, get_or, drop, eqb-true, eq-eqb, and_left, and_right, every}
use Rattle.classes.specs.Lookup.{obeys}

-- what passes at every entry passes at any place, if it passes at what stands past the end
pub every-at : (t : ℕ → Bool) (xs : List ℕ) (d k : ℕ) → every t xs ≡ true → t d ≡ true → t (get_or xs k d) ≡ true
every-at t [] d k h e = e
every-at t (x ∷ xs) d zero h e = and_left (t x) (every t xs) h
every-at t (x ∷ xs) d (suc k) h e = every-at t xs d k (and_right (t x) (every t xs) h) e

-- a lookup table that passes the test of its rule has the rule's answer at each place
pub obeys-at : (rule : ℕ → ℕ) (size : ℕ) (xs : List ℕ) (k : ℕ) → obeys rule size xs ≡ true → k < length xs → get_or xs k 0 ≡ rule (size + 16 * k)
unfolding obeys
obeys-at rule size [] k t h = absurd (not-suc-le-zero h)
obeys-at rule size (x ∷ xs) zero t h = rw (mul-zero, add-zero) (eqb-true x (rule size) (and_left (eqb x (rule size)) (obeys rule (size + 16) xs) t))
obeys-at rule size (x ∷ xs) (suc k) t h =
    let e : size + 16 * suc k ≡ (size + 16) + 16 * k = omega arith in
    rw e (obeys-at rule (size + 16) xs k (and_right (eqb x (rule size)) (obeys rule (size + 16) xs) t) (le_of_suc-le-suc h))

-- within a table, what would stand past its end does not matter
pub get_d_within : (xs : List ℕ) (d e k : ℕ) → k < length xs → get_or xs k d ≡ get_or xs k e
get_d_within [] d e k h = absurd (not-suc-le-zero h)
get_d_within (x ∷ xs) d e zero h = refl
get_d_within (x ∷ xs) d e (suc k) h = get_d_within xs d e k (le_of_suc-le-suc h)

-- a table whose entries from n on are all d reads d from there on
pub tail_at : (xs : List ℕ) (n d k : ℕ) → n ≤ k → every (λ x. eqb x d) (drop n xs) ≡ true → get_or xs k d ≡ d
tail_at xs zero d k l t = eqb-true (get_or xs k d) d (every-at (λ x. eqb x d) xs d k t (eq-eqb d d refl))
tail_at [] (suc n) d k l t = refl
tail_at (x ∷ xs) (suc n) d zero l t = absurd (not-suc-le-zero l)
tail_at (x ∷ xs) (suc n) d (suc k) l t = tail_at xs n d k (le_of_suc-le-suc l) t
