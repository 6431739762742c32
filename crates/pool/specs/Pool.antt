-- The pool on values: one block out, one block back, over the heap's calls. Each of its calls makes at most one call of the heap, on a class of the pool's own.
-- A program calls the heap and the pool on one book, in any order: both are in one history.
use Rattle.std.specs.Prelude.{ℕ, List, [], ◌∷◌, reverse, Bool, cond, not, ◌&&◌, ltb, length}
use Rattle.std.proofs.Math.Option.{Option, none}
use Rattle.facts.specs.Lists.{elem, update}
use Rattle.words.specs.Host.{bad_host}
use Rattle.classes.specs.declared.Shape.{Shape}
use Rattle.classes.specs.Shape.{shape_of, class_count, pool_id}
use Rattle.rules.specs.Rules.{Rules}
use Rattle.model.specs.declared.Hole.{Hole}
use Rattle.model.specs.Calls as Calls
use Rattle.model.specs.Calls.{Call, Answer, pooled_take, pooled_release, is_pooled, is_refused, blocks_of}
use Rattle.model.specs.Class.{Class}
use Rattle.model.specs.Release.{of_kind, out_here}
use Rattle.model.specs.Heap.{Heap, Outcome, new_heap, step}
use Rattle.pool.specs.Stock.{stock_most, blank}

-- the heap and, by a class's number, the blocks in stock, the next to be granted first
pub record Pool : Type 0 where
  pub heap : Heap
  pub stock : ℕ → List ℕ

unfoldable pub new_pool : Rules → Pool
new_pool rules = record { heap = new_heap rules; stock = λ c. [] }

-- what a class is asked; a trim sends the next block in stock back to the heap
pub data PoolRequest : Type 0 where
  alloc : (host : ℕ) → PoolRequest
  free : (host word : ℕ) → PoolRequest
  trim : (host : ℕ) → PoolRequest

abbrev pub host_in : PoolRequest → ℕ
host_in (alloc h) = h
host_in (free h w) = h
host_in (trim h) = h

-- a request of the class with a number, 0 to 63 small and 64 to 75 medium; or a call of the heap
pub data PoolCall : Type 0 where
  to : (class : ℕ) → PoolRequest → PoolCall
  heap : Call → PoolCall

-- an alloc is granted a block or has none; a trim has the block that went back, or none; the heap answers its own calls
pub data PoolAnswer : Type 0 where
  refused : (number : ℕ) → PoolAnswer
  granted : (word : ℕ) → PoolAnswer
  trimmed : (word : ℕ) → PoolAnswer
  no_block freed : PoolAnswer
  answered : Answer → PoolAnswer

-- ---- what becomes of a request: it is turned away; or done with the stock alone, told as it is afterwards; or it goes to the heap, with
-- the stock that is left but for what the heap brings
pub data Plan : Type 0 where
  turn : (number : ℕ) → Plan
  stays : PoolAnswer → List ℕ → Plan
  goes : Call → List ℕ → Plan

unfoldable pub plan_alloc : ℕ → ℕ → List ℕ → Plan
plan_alloc c h [] = goes (pooled_take c h blank) []
plan_alloc c h (w ∷ ws) = stays (granted w) ws

unfoldable pub plan_trim : ℕ → ℕ → List ℕ → Plan
plan_trim c h [] = stays no_block []
plan_trim c h (w ∷ ws) = goes (pooled_release c h (w ∷ [])) ws

-- a block is granted in a class: out of the heap there, and not in stock
unfoldable pub is_granted : Shape → Class → List ℕ → ℕ → Bool
is_granted sh s st w = out_here sh s w && not (elem w st)

-- numbers 9 and 10
unfoldable pub plan_free : ℕ → Class → List ℕ → ℕ → ℕ → Plan
plan_free c s st h w =
    cond (not (of_kind (shape_of (pool_id c)).kind w)) (turn 9)
    (cond (not (is_granted (shape_of (pool_id c)) s st w)) (turn 10)
    (cond (ltb (length st) (stock_most c)) (stays freed (w ∷ st)) (goes (pooled_release c h (w ∷ [])) st)))

abbrev pub plan_of : ℕ → Class → List ℕ → PoolRequest → Plan
plan_of c s st (alloc h) = plan_alloc c h st
plan_of c s st (free h w) = plan_free c s st h w
plan_of c s st (trim h) = plan_trim c h st

-- numbers 3 and 4 come first
unfoldable pub plan : ℕ → Class → List ℕ → PoolRequest → Plan
plan c s st x = cond (bad_host (host_in x)) (turn 3) (cond (not (ltb c class_count)) (turn 4) (plan_of c s st x))

-- ---- a request that goes to the heap
-- what is answered, and the stock afterwards
pub record End : Type 0 where
  pub answer : PoolAnswer
  pub stock : List ℕ

-- a take's blocks, the one that was popped first ahead: it is granted, the others come into stock
abbrev pub bring : List ℕ → End
bring [] = record { answer = no_block; stock = [] }
bring (w ∷ ws) = record { answer = granted w; stock = ws }

abbrev pub first_of : List ℕ → PoolAnswer
first_of [] = no_block
first_of (w ∷ ws) = trimmed w

-- `old` and `new` are the stock before, and as the plan leaves it
abbrev pub end_of : PoolRequest → (old new : List ℕ) → Answer → End
end_of (alloc h) old new a = bring (reverse (blocks_of a))
end_of (free h w) old new a = record { answer = freed; stock = new }
end_of (trim h) old new a = record { answer = first_of old; stock = new }

-- the number of a refusal
abbrev pub number_of : Answer → ℕ
number_of (Calls.refused n) = n
number_of (Calls.taken n l v) = 0
number_of (Calls.fate n) = 0
number_of (Calls.fates l) = 0
number_of (Calls.run q f) = 0
number_of Calls.no_run = 0
number_of Calls.released = 0
number_of (Calls.grown b) = 0
number_of (Calls.contained b) = 0
number_of (Calls.reported f) = 0

-- the heap's refusal is the pool's, and nothing changes
unfoldable pub ends : PoolRequest → (old new : List ℕ) → Answer → End
ends x old new a = cond (is_refused a) (record { answer = refused (number_of a); stock = old }) (end_of x old new a)

-- ---- one call: the pool afterwards, the answer, the heap's calls that were made, and what the arena gave at them
pub record Done : Type 0 where
  pub pool : Pool
  pub answer : PoolAnswer
  pub calls : List Call
  pub run : Option Hole

abbrev pub with_stock : Pool → ℕ → Heap → List ℕ → Pool
with_stock P c H st = record { heap = H; stock = update P.stock c st }

abbrev pub after : Pool → ℕ → PoolRequest → Call → List ℕ → Outcome → Done
after P c x y new o =
    let e = ends x (P.stock c) new o.answer in
    record { pool = with_stock P c o.heap e.stock; answer = e.answer; calls = y ∷ []; run = o.run }

unfoldable pub carry : ℕ → Pool → ℕ → PoolRequest → Plan → Done
carry size P c x (turn n) = record { pool = P; answer = refused n; calls = []; run = none }
carry size P c x (stays a st) = record { pool = with_stock P c P.heap st; answer = a; calls = []; run = none }
carry size P c x (goes y st) = after P c x y st (step size P.heap y)

-- a call of the heap goes to it as it is; a pooled one names no class that a caller has, and is refused as 4
unfoldable pub pass : ℕ → Pool → Call → Done
pass size P x =
    let o = step size P.heap x in
    cond (is_pooled x) (record { pool = P; answer = answered (Calls.refused 4); calls = []; run = none })
    (record { pool = record { heap = o.heap; stock = P.stock }; answer = answered o.answer; calls = x ∷ []; run = o.run })

unfoldable pub pool_step : ℕ → Pool → PoolCall → Done
pool_step size P (to c x) = carry size P c x (plan c (P.heap.classes (pool_id c)) (P.stock c) x)
pool_step size P (heap x) = pass size P x
