-- Laws of `some_below` and `every_below`: what they mean.
use Rattle.facts.proofs.Prelude.{ℕ, zero, suc, ◌<◌, arith, eq-or-lt_of_le, Bool, true, false, false≢true, ◌⊎◌, ⊎_elim, ◌≡◌, refl, by_cases, or_left, or_right, and_no}
use Rattle.game.specs.Game.{some_below, every_below}

last_or_below : (m n : ℕ) → m < suc n → (m ≡ n) ⊎ (m < n)
last_or_below m n h = eq-or-lt_of_le (omega arith)

module _ (f : ℕ → Bool) where
  pub some-found : (m n : ℕ) → m < n → f m ≡ true → some_below f n ≡ true
  some-found m zero h e = absurd (omega arith)
  some-found m (suc n) h e =
      ⊎_elim
      (λ (i : m ≡ n). or_left (f n) (some_below f n) (rw i at e))
      (λ l. or_right (f n) (some_below f n) (some-found m n l e))
      (last_or_below m n h)

  pub every-fails : (m n : ℕ) → m < n → f m ≡ false → every_below f n ≡ false
  every-fails m zero h e = absurd (omega arith)
  every-fails m (suc n) h e =
      ⊎_elim
      (λ (i : m ≡ n). let z : f n ≡ false = rw i at e in rw z refl)
      (λ l. rw (every-fails m n l e) (and_no (f n)))
      (last_or_below m n h)

  pub some_is : (n : ℕ) → some_below f n ≡ true → (m : ℕ) × ((m < n) × (f m ≡ true))
  some_is zero e = absurd (false≢true e)
  some_is (suc n) e =
      by_cases (f n)
      (λ t. (n, (omega arith, t)))
      (λ t. let r = some_is n (rw t at e) in (r.0, (omega arith, r.1.1)))
