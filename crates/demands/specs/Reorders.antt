-- Document 02, A.14, any number of times: histories that differ by exchanges of neighbouring calls. proofs/Reorders proves it.
--     Reorders      after a start, ys is xs with such neighbours exchanged, one pair after the other
--     Reordered     what the two histories have in common: the book that they leave, and what each class was answered
use Rattle.std.specs.Prelude.{ℕ, false, ◌&&◌, List, [], ◌∷◌, ◌++◌, ◌≡◌, eqb}
use Rattle.std.proofs.Math.Option.{some}
use Rattle.model.specs.Calls.{Call, Named, names}
use Rattle.model.specs.History.{answers_of}
use Rattle.demands.specs.Start.{Start, book_after, observed}
use Rattle.demands.specs.ChangePlaces.{reaches}

pub data Reorders (s : Start) : List Call → List Call → Type 0 where
  same : (xs : List Call) → Reorders s xs xs
  exchange : (xs : List Call) (x y : Call) (p q : Named) (zs ys : List Call) → names x ≡ some p → names y ≡ some q → eqb p.class q.class ≡ false
      → (reaches s xs x && reaches s (xs ++ x ∷ []) y) ≡ false → Reorders s (xs ++ y ∷ x ∷ zs) ys → Reorders s (xs ++ x ∷ y ∷ zs) ys

pub record Reordered (s : Start) (xs ys : List Call) : Type 0 where
  pub book : book_after s xs ≡ book_after s ys
  pub answers : (c : ℕ) → answers_of c (observed s xs) ≡ answers_of c (observed s ys)
