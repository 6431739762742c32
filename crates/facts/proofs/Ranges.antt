-- A test of every number below one, as `(0..n).all(..)` makes it, and as the definitions do.
use Rattle.facts.proofs.Prelude.{ℕ, zero, suc, ◌+◌, arith, zero-add, add-one, Bool, true, false, ◌&&◌, and-true, ◌≡◌, refl, sym, ap, ◌∙◌, every, below}
use Rattle.std.specs.List.{list_all, range_with_len}

all-from : (t : ℕ → Bool) (a n m : ℕ) → a + n ≡ m → (list_all t (range_with_len a n) && every t (below a)) ≡ every t (below m)
all-from t a zero m e = let z : a ≡ m = omega arith in rw z
all-from t a (suc n) m e =
    turned (t a) (list_all t (range_with_len (a + 1) n)) (every t (below a))
    ∙ ap (λ k. list_all t (range_with_len (a + 1) n) && every t (below k)) (sym (add-one a))
    ∙ all-from t (a + 1) n m (omega arith)
  where
    turned : (x y z : Bool) → ((x && y) && z) ≡ (y && (x && z))
    turned true y z = refl
    turned false true z = refl
    turned false false z = refl

pub all-below : (t : ℕ → Bool) (n : ℕ) → list_all t (range_with_len 0 n) ≡ every t (below n)
all-below t n = sym (and-true (list_all t (range_with_len 0 n))) ∙ all-from t 0 n n (zero-add n)
