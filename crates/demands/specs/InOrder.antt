-- Document 02, A.14, for many calls (docs/CALLS.md, "Calls in another order"): calls on classes may be put in any order in which the calls on each class keep
-- their order, and so do those that reach the arena. proofs/InOrder proves it.
--     Passes     the call y, on class c, may be made ahead of the calls vs after xs: each of them is on another class, and not both it and y reach
--                the arena
--     InOrder    the calls us after xs, in such an order ys: the next call of ys is one of those left of us that passes all that are ahead of it
use Rattle.std.specs.Prelude.{ℕ, false, ◌&&◌, List, [], ◌∷◌, ◌++◌, ◌≡◌, eqb}
use Rattle.std.proofs.Math.Option.{some}
use Rattle.model.specs.Calls.{Call, Named, names}
use Rattle.demands.specs.Start.{Start}
use Rattle.demands.specs.ChangePlaces.{reaches}

pub data Passes (s : Start) (y : Call) (c : ℕ) : List Call → List Call → Type 0 where
  none_ahead : (xs : List Call) → Passes s y c xs []
  one-ahead : (xs : List Call) (x : Call) (p : Named) (vs : List Call) → names x ≡ some p → eqb p.class c ≡ false → (reaches s xs x && reaches s (xs ++ x ∷ []) y) ≡ false
      → Passes s y c (xs ++ x ∷ []) vs → Passes s y c xs (x ∷ vs)

pub data InOrder (s : Start) : List Call → List Call → List Call → Type 0 where
  all_made : (xs : List Call) → InOrder s xs [] []
  next-made : (xs vs : List Call) (y : Call) (q : Named) (zs ys : List Call) → names y ≡ some q → Passes s y q.class xs vs → InOrder s (xs ++ y ∷ []) (vs ++ zs) ys
      → InOrder s xs (vs ++ y ∷ zs) (y ∷ ys)
