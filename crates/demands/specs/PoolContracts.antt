-- What a caller sees of one call, of the heap or of the pool, and of calls in turn, by the contracts of the exported functions alone; specs/Contracts has it of the
-- heap's calls.
-- Assumes nothing.
--     block_observed    what is read from the number and the out-parameter of an alloc or a trim; `got` names a block
--     free_observed     from a free's number
--     PoolObserves     b is the book before the call
--     MixedInTurn      so a program's calls are those of specs/Mixed
use Rattle.std.specs.Prelude.{ℕ, cond, List, [], ◌∷◌, map, ◌≡◌, eqb}
use Rattle.refinement.specs.Direct.{Reply}
use Rattle.pool.specs.Pool as Pool
use Rattle.model.specs.Calls.{Call}
use Rattle.pool.specs.Pool.{PoolCall, PoolAnswer, to, refused, granted, trimmed, no_block, freed, answered}
use Rattle.poolcalls.specs.Calls.{PoolReply, pool_reply}
use Rattle.vigbuso.specs.Pool.{pool_on, BlockEnds, FreeEnds}
use Rattle.poolrefinement.specs.Run.{pool_answers_from}
use Rattle.demands.specs.Contracts.{Observes}
use Rattle.demands.specs.Start.{Start, Starts, Begins, begun}
use Rattle.demands.specs.Mixed.{pool_call, mixed_book}

-- the word of kind 0 is none
abbrev pub block_observed : (ℕ → PoolAnswer) → ℕ → ℕ → PoolAnswer
block_observed got r w = cond (eqb r 0) (cond (eqb w 0) no_block (got w)) (refused r)

abbrev pub free_observed : ℕ → PoolAnswer
free_observed r = cond (eqb r 0) freed (refused r)

-- each premise is what the function ensures
pub data PoolObserves (b : List ℕ) : PoolCall → PoolReply → Type 0 where
  alloc : (c h r w w' : ℕ) (b' : List ℕ) → BlockEnds (pool_on b c (Pool.alloc h)) r b' w w' → PoolObserves b (to c (Pool.alloc h)) (pool_reply (block_observed granted r w') b')
  free : (c h w r : ℕ) (b' : List ℕ) → FreeEnds (pool_on b c (Pool.free h w)) r b' → PoolObserves b (to c (Pool.free h w)) (pool_reply (free_observed r) b')
  trim : (c h r w w' : ℕ) (b' : List ℕ) → BlockEnds (pool_on b c (Pool.trim h)) r b' w w' → PoolObserves b (to c (Pool.trim h)) (pool_reply (block_observed trimmed r w') b')
  heap : (x : Call) (w : Reply) → Observes b x w → PoolObserves b (Pool.heap x) (pool_reply (answered w.answer) w.book)

-- the book behind the replies to calls in turn from the book b
abbrev pub left_by : List ℕ → List PoolReply → List ℕ
left_by b [] = b
left_by b (s ∷ ss) = left_by s.book ss

pub data PoolInTurn : List ℕ → List PoolCall → List PoolReply → Type 0 where
  ends : (b : List ℕ) → PoolInTurn b [] []
  calls : (b : List ℕ) (x : PoolCall) (s : PoolReply) (xs : List PoolCall) (ss : List PoolReply) → PoolObserves b x s → PoolInTurn s.book xs ss → PoolInTurn b (x ∷ xs) (s ∷ ss)

-- a start that a caller saw, and calls in turn behind it: the start is one, and the answers and the book are those of `mixed_answers` and `mixed_book`
pub record InTurnMixed (s : Start) (b' : List ℕ) (xs : List PoolCall) (ss : List PoolReply) : Type 0 where
  pub starts : Starts s
  pub answers : map (λ r. r.answer) ss ≡ pool_answers_from pool_call (begun s) xs
  pub book : left_by b' ss ≡ mixed_book s xs

abbrev pub MixedInTurn : Type 0
MixedInTurn = (s : Start) (b' : List ℕ) (xs : List PoolCall) (ss : List PoolReply) → Begins s b' → PoolInTurn b' xs ss → InTurnMixed s b' xs ss
