-- Lists, and functions changed at one place.
use Rattle.std.specs.Prelude.{ℕ, zero, suc, ◌+◌, List, [], ◌∷◌, Bool, true, false, cond, not, ◌&&◌, ◌||◌, eqb}
use Rattle.std.proofs.Math.Option.{Option, none, some}

module _ {A : Type 0} where
  abbrev pub is_nil : List A → Bool
  is_nil [] = true
  is_nil (x ∷ xs) = false

  abbrev pub filter : (A → Bool) → List A → List A
  filter t [] = []
  filter t (x ∷ xs) = cond (t x) (x ∷ filter t xs) (filter t xs)

  abbrev pub every : (A → Bool) → List A → Bool
  every t [] = true
  every t (x ∷ xs) = t x && every t xs

  abbrev pub any : (A → Bool) → List A → Bool
  any t [] = false
  any t (x ∷ xs) = t x || any t xs

  -- what holds of each element
  abbrev pub All : (A → Type 0) → List A → Type 0
  All P [] = Unit {0}
  All P (x ∷ xs) = P x × All P xs

  -- the sum of a measure over the list
  abbrev pub total : (A → ℕ) → List A → ℕ
  total f [] = 0
  total f (x ∷ xs) = f x + total f xs

  abbrev pub is_some : Option A → Bool
  is_some none = false
  is_some (some x) = true

  -- a function changed at one place
  abbrev pub update : (ℕ → A) → ℕ → A → ℕ → A
  update f c v = λ d. cond (eqb d c) v (f d)

abbrev pub elem : ℕ → List ℕ → Bool
elem w [] = false
elem w (x ∷ xs) = eqb w x || elem w xs

abbrev pub distinct : List ℕ → Bool
distinct [] = true
distinct (x ∷ xs) = not (elem x xs) && distinct xs

-- how often w stands in the list
abbrev pub count : ℕ → List ℕ → ℕ
count w [] = 0
count w (x ∷ xs) = cond (eqb w x) 1 0 + count w xs

-- n - 1 down to 0
abbrev pub below : ℕ → List ℕ
below zero = []
below (suc n) = n ∷ below n
