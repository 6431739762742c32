-- No take is empty without need, as statements.
use Rattle.std.specs.Prelude.{ℕ, true, false, ◌≡◌}
use Rattle.std.proofs.Math.Option.{Option, some}
use Rattle.facts.specs.Lists.{is_nil, All}
use Rattle.classes.specs.declared.Shape.{Shape}
use Rattle.model.specs.Calls.{blocks_of, is_refused}
use Rattle.model.specs.Page.{has_more, reused}
use Rattle.model.specs.Class.{Class, Result, Ask, done, asks}

-- every page of the partial list, and every empty page as it comes back, has a block to yield; no page of the full list has
pub record Listed (sh : Shape) (s : Class) : Type 0 where
  pub partial : All (λ p. has_more sh p ≡ true) s.partial
  pub empty : All (λ p. has_more sh (reused sh p) ≡ true) s.empty
  pub full : All (λ p. has_more sh p ≡ false) s.full

-- a take is refused, answers a block, or asks the arena and then answers a block if it is given a run
pub data TakeYields : Ask → Type 0 where
  refuses : {r : Result} → is_refused r.answer ≡ true → TakeYields (done r)
  yields : {r : Result} → is_nil (blocks_of r.answer) ≡ false → TakeYields (done r)
  asks-first : {n : ℕ} {k : Option ℕ → Result} → ((q : ℕ) → is_nil (blocks_of (k (some q)).answer) ≡ false) → TakeYields (asks n k)
