-- A chain of iterators over a lent list, as the clauses have it; and the parts of an `&&`.
use Rattle.std.proofs.Common.{arith}
use Rattle.std.specs.List.{list_all}
use Rattle.facts.proofs.Prelude.{ℕ, zero, suc, ◌<◌, ◌≡◌, ◌∙◌, refl, Bool, true, false, ◌&&◌, List, [], ◌∷◌, length, get_or, every, and_left, and_right}

pub all-every : {A : Type 0} (t : A → Bool) (xs : List A) → list_all t xs ≡ every t xs
all-every t [] = refl
all-every t (x ∷ xs) = rw (all-every t xs)

-- what holds of each item holds of the one that a closure is asked
pub every-item : (t : ℕ → Bool) (xs : List ℕ) (k x : ℕ) → every t xs ≡ true → k < length xs → x ≡ get_or xs k x → t x ≡ true
every-item t [] k x e l h = absurd (omega arith)
every-item t (y ∷ ys) zero x e l h = rw h (and_left (t y) (every t ys) e)
every-item t (y ∷ ys) (suc k) x e l h = every-item t ys k x (and_right (t y) (every t ys) e) (omega arith) h

-- v is what t && a answered, where the second part ran and where it did not
pub and-then : (t s v a b : Bool) → t ≡ s → t ≡ true → v ≡ a → a ≡ b → v ≡ (s && b)
and-then t s v a b e h f g = rw (← e, h) (f ∙ g)

pub and-else : (t s v b : Bool) → t ≡ s → t ≡ false → v ≡ t → v ≡ (s && b)
and-else t s v b e h f = f ∙ h ∙ rw (← e, h)
