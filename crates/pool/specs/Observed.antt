-- Histories of all calls, of heap and pool, from an opening, and what a caller is told, in the words of document 01's histories: an alloc is a take in the
-- pool's class that answers one block, a free the release of one, a trim tells of no block.
use Rattle.std.specs.Prelude.{ℕ, List, [], ◌∷◌, ◌++◌, map, Bool, false, eqb}
use Rattle.std.proofs.Math.Option.{Option}
use Rattle.facts.specs.Lists.{filter}
use Rattle.classes.specs.Shape.{pool_id}
use Rattle.rules.specs.Rules.{Rules}
use Rattle.model.specs.declared.Hole.{Hole}
use Rattle.model.specs.Calls as Calls
use Rattle.model.specs.Calls.{Call, Answer, names}
use Rattle.model.specs.History as History
use Rattle.model.specs.History.{Event}
use Rattle.pool.specs.Stock.{blank}
use Rattle.pool.specs.Pool.{Pool, new_pool, PoolCall, PoolRequest, PoolAnswer, Done, pool_step, to, heap, alloc, free, trim, refused, granted, no_block, freed, trimmed, answered}

-- a call as it went: its answer, and what the arena gave at it
pub record PoolEvent : Type 0 where
  pub call : PoolCall
  pub answer : PoolAnswer
  pub run : Option Hole

abbrev pub event_of : PoolCall → Done → PoolEvent
event_of x o = record { call = x; answer = o.answer; run = o.run }

abbrev pub pool_events_from : ℕ → Pool → List PoolCall → List PoolEvent
pool_events_from size P [] = []
pool_events_from size P (x ∷ xs) = event_of x (pool_step size P x) ∷ pool_events_from size (pool_step size P x).pool xs

abbrev pub pool_from : ℕ → Pool → List PoolCall → Pool
pool_from size P [] = P
pool_from size P (x ∷ xs) = pool_from size (pool_step size P x).pool xs

-- the heap's calls that a history makes
abbrev pub heap_calls_from : ℕ → Pool → List PoolCall → List Call
heap_calls_from size P [] = []
heap_calls_from size P (x ∷ xs) = (pool_step size P x).calls ++ heap_calls_from size (pool_step size P x).pool xs

-- from an opening with these rules
abbrev pub pool_events : ℕ → Rules → List PoolCall → List PoolEvent
pool_events size rules xs = pool_events_from size (new_pool rules) xs

abbrev pub pool_after : ℕ → Rules → List PoolCall → Pool
pool_after size rules xs = pool_from size (new_pool rules) xs

abbrev pub heap_calls : ℕ → Rules → List PoolCall → List Call
heap_calls size rules xs = heap_calls_from size (new_pool rules) xs

-- ---- what a caller is told
abbrev pub request_call : ℕ → PoolRequest → Call
request_call c (alloc h) = Calls.pooled_take c h blank
request_call c (free h w) = Calls.pooled_release c h (w ∷ [])
request_call c (trim h) = Calls.report

abbrev pub as_call : PoolCall → Call
as_call (to c x) = request_call c x
as_call (heap x) = x

abbrev pub as_answer : PoolAnswer → Answer
as_answer (refused n) = Calls.refused n
as_answer (granted w) = Calls.taken 1 (w ∷ []) false
as_answer (trimmed w) = Calls.fate 0
as_answer no_block = Calls.taken 0 [] false
as_answer freed = Calls.fate 0
as_answer (answered a) = a

abbrev pub observed : PoolEvent → Event
observed v = record { call = as_call v.call; answer = as_answer v.answer; run = v.run }

abbrev pub observed_of : List PoolEvent → List Event
observed_of vs = map observed vs

-- ---- the calls of the class with an id: takes and releases, groups too, that name it; for the pool's, the allocs, frees and trims (and pooled calls of a caller's
-- own, which are refused). Their answers, and what the arena gave at each
abbrev pub is_of : ℕ → PoolCall → Bool
is_of c (to d x) = eqb (pool_id d) c
is_of c (heap x) = History.is_of c (names x)

abbrev pub pool_calls_of : ℕ → List PoolCall → List PoolCall
pool_calls_of c xs = filter (is_of c) xs

abbrev pub pool_answers_of : ℕ → List PoolEvent → List PoolAnswer
pool_answers_of c vs = map (λ v. v.answer) (filter (λ v. is_of c v.call) vs)

abbrev pub pool_runs_of : ℕ → List PoolEvent → List (Option Hole)
pool_runs_of c vs = map (λ v. v.run) (filter (λ v. is_of c v.call) vs)
