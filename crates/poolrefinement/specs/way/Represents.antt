-- A book stands for a pool. n is the arena's length.
--     StockRep      a class's stock: COUNT in its range, each entry's block in the arena, and PLACE of entry k is k; c is the class's number
--     PoolRep       the heap, and each class's stock
--     PoolAgrees    what is said is the model's, and the book stands for the pool afterwards
use Rattle.std.specs.Prelude.{ℕ, ◌+◌, ◌*◌, ◌≤◌, ◌<◌, true, List, ◌≡◌, ltb}
use Rattle.classes.specs.Shape.{shape_of, class_count, pool_id}
use Rattle.refinement.specs.way.Represents.{Represents}
use Rattle.pool.specs.Stock.{count_max}
use Rattle.pool.specs.Pool.{Pool, Done}
use Rattle.poolcalls.specs.Stock.{count_in, entry_in, place_in, stock_in}
use Rattle.poolcalls.specs.Calls.{PoolReply}

pub record StockRep (n : ℕ) (b : List ℕ) (c : ℕ) (st : List ℕ) : Type 0 where
  pub same : stock_in b c ≡ st
  pub few : count_in b c ≤ count_max
  pub low : (k : ℕ) → k < count_in b c → entry_in b c k + (shape_of (pool_id c)).block ≤ 4096 * n
  pub placed : (k : ℕ) → k < count_in b c → place_in b (entry_in b c k) ≡ k

pub record PoolRep (n : ℕ) (b : List ℕ) (P : Pool) : Type 0 where
  pub heap : Represents n b P.heap
  pub stocks : (c : ℕ) → ltb c class_count ≡ true → StockRep n b c (P.stock c)

pub record PoolAgrees (n : ℕ) (s : PoolReply) (d : Done) : Type 0 where
  pub answer : s.answer ≡ d.answer
  pub pool : PoolRep n s.book d.pool
