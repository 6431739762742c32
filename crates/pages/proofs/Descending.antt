-- Lists of blocks: from the highest down, within bounds, joined and turned.
--     small          the block has an out bit
--     length-descending, count-descending, descending-below
--     every_append, every-reverse, every-mono
--     small-counts   blocks are small where none above is counted
use Rattle.facts.proofs.Prelude.{ℕ, zero, suc, ◌+◌, ◌≤◌, ◌<◌, arith, add-zero, Bool, true, false, cond, List, [], ◌∷◌, ◌++◌, reverse, reverse_aux, ◌≡◌, refl, ap}
use Rattle.facts.proofs.Prelude.{eqb, ltb, length, lt-ltb, le-ltb, ltb-true, ltb-false, eq-eqb, eqb-true, eqb-false, every, count, by_cases, and_left, and_right}
use Rattle.words.specs.Host.{digit}
use Rattle.pages.specs.Stack.{descending}

abbrev pub small : ℕ → Bool
small i = ltb i 4096

pub length-descending : (a k : ℕ) → length (descending a k) ≡ k
length-descending a zero = refl
length-descending a (suc k) = ap suc (length-descending a k)

pub descending-below : (a k m : ℕ) → a + k ≤ m → every (λ i. ltb i m) (descending a k) ≡ true
descending-below a zero m h = refl
descending-below a (suc k) m h = rw (lt-ltb (a + k) m (omega arith)) (descending-below a k m (omega arith))

module _ (P : ℕ → Bool) where
  pub every_append : (s t : List ℕ) → every P s ≡ true → every P t ≡ true → every P (s ++ t) ≡ true
  every_append [] t e f = f
  every_append (x ∷ s) t e f = rw (and_left (P x) (every P s) e) (every_append s t (and_right (P x) (every P s) e) f)

  every-turned : (s t : List ℕ) → every P s ≡ true → every P t ≡ true → every P (reverse_aux s t) ≡ true
  every-turned [] t e f = f
  every-turned (x ∷ s) t e f = every-turned s (x ∷ t) (and_right (P x) (every P s) e) (rw (and_left (P x) (every P s) e) f)

  pub every-reverse : (s : List ℕ) → every P s ≡ true → every P (reverse s) ≡ true
  every-reverse s e = every-turned s [] e refl

pub every_mono : (P Q : ℕ → Bool) → ((i : ℕ) → P i ≡ true → Q i ≡ true) → (s : List ℕ) → every P s ≡ true → every Q s ≡ true
every_mono P Q m [] e = refl
every_mono P Q m (x ∷ s) e = rw (m x (and_left (P x) (every P s) e)) (every_mono P Q m s (and_right (P x) (every P s) e))

-- what is below one bound is below another
pub every-below : (m n : ℕ) → m ≤ n → (s : List ℕ) → every (λ i. ltb i m) s ≡ true → every (λ i. ltb i n) s ≡ true
every-below m n h = every_mono (λ i. ltb i m) (λ i. ltb i n) (λ i e. lt-ltb i n (omega (arith, ltb-true i m e)))

-- ---- counts
pub digit_true : (a b : ℕ) → a < b → digit (ltb a b) ≡ 1
digit_true a b h = rw (lt-ltb a b h)

pub digit_false : (a b : ℕ) → b ≤ a → digit (ltb a b) ≡ 0
digit_false a b h = rw (le-ltb a b h)

pub digit-le : (t : Bool) → digit t ≤ 1
digit-le true = omega arith
digit-le false = omega arith

-- by cases on a test of two numbers, with its value as a number
pub digit_cases {ℓ} : {P : Type ℓ} (a b : ℕ) → (a < b → digit (ltb a b) ≡ 1 → P) → (b ≤ a → digit (ltb a b) ≡ 0 → P) → P
digit_cases a b f g = by_cases (ltb a b) (λ e. f (ltb-true a b e) (rw e)) (λ e. g (ltb-false a b e) (rw e))

pub eq_cases {ℓ} : {P : Type ℓ} (a b : ℕ) → (a ≡ b → ◌≡◌ {A = ℕ} (cond (eqb a b) 1 0) 1 → P) → ((a ≡ b → ⊥) → ◌≡◌ {A = ℕ} (cond (eqb a b) 1 0) 0 → P) → P
eq_cases a b f g = by_cases (eqb a b) (λ e. f (eqb-true a b e) (rw e)) (λ e. g (eqb-false a b e) (rw e))

pub count-descending : (j a k : ℕ) → count j (descending a k) + digit (ltb j a) ≡ digit (ltb j (a + k))
count-descending j a zero = rw add-zero (omega arith)
count-descending j a (suc k) =
    let ih = count-descending j a k in
    eq_cases j (a + k)
    (λ e e'. digit_cases j (a + k) (λ f f'. digit_cases j (a + suc k) (λ g g'. omega arith) (λ g g'. omega arith)) (λ f f'. digit_cases j (a + suc k) (λ g g'. omega arith) (λ g g'. omega arith)))
    (λ e e'. digit_cases j (a + k) (λ f f'. digit_cases j (a + suc k) (λ g g'. omega arith) (λ g g'. omega arith)) (λ f f'. digit_cases j (a + suc k) (λ g g'. omega (arith, e)) (λ g g'. omega arith)))

pub small-counts : (is : List ℕ) → ((j : ℕ) → 4096 ≤ j → count j is ≡ 0) → every small is ≡ true
small-counts [] h = refl
small-counts (i ∷ is) h = rw (by_cases (ltb i 4096) (λ e. e) (λ e. absurd (over (ltb-false i 4096 e)))) (small-counts is (λ j l. let z = h j l in omega arith))
  where
    over : 4096 ≤ i → ⊥
    over l =
        let z : cond (eqb i i) 1 0 + count i is ≡ 0 = h i l in
        let y : 1 + count i is ≡ 0 = rw (eq-eqb i i refl) at z in
        omega arith
