-- That a pool history on the words is the model's.
use Rattle.std.specs.Prelude.{ℕ, List, map, ◌≡◌}
use Rattle.rules.specs.Rules.{Rules}
use Rattle.pool.specs.Pool.{PoolCall}
use Rattle.pool.specs.Observed.{pool_events, pool_after}
use Rattle.poolrefinement.specs.way.Represents.{PoolRep}
use Rattle.poolrefinement.specs.Run.{on_call, pool_answers_from, book_from}

-- a history from the book b is answered as the model's, and leaves a book that stands for the model's pool
pub record PoolRuns (n : ℕ) (rules : Rules) (b : List ℕ) (xs : List PoolCall) : Type 0 where
  pub answers : pool_answers_from (on_call n) b xs ≡ map (λ v. v.answer) (pool_events n rules xs)
  pub book : PoolRep n (book_from (on_call n) b xs) (pool_after n rules xs)
