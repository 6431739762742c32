-- What is claimed of every history of all calls, of heap and pool, from an opening of an arena of `size` pages, refused calls included. P is the pool after it.
use Rattle.std.specs.Prelude.{ℕ, suc, ◌*◌, ◌≤◌, ◌<◌, ◌≡◌, ◌⊎◌, ◌↔◌, List, [], ◌∷◌, ◌++◌, reverse, true, false, ltb, length, replicate}
use Rattle.std.proofs.Math.Option.{none}
use Rattle.facts.specs.Lists.{All, elem, distinct}
use Rattle.words.specs.Host.{bad_host}
use Rattle.classes.specs.Shape.{shape_of, class_count, pool_id}
use Rattle.rules.specs.Rules.{Rules}
use Rattle.model.specs.Calls.{Call, pooled_take, pooled_release, is_pooled, is_refused, blocks_of}
use Rattle.model.specs.Arena as Arenas
use Rattle.model.specs.Release.{of_kind, out_here}
use Rattle.model.specs.Heap.{Heap, step}
use Rattle.model.specs.History.{events, heap_after}
use Rattle.model.specs.Entries.{OutIn, direct_after}
use Rattle.model.specs.Offered.{Spent}
use Rattle.model.specs.Demands.{Disjoint, IsoDisjoint}
use Rattle.pool.specs.Stock.{stock_most, blank}
use Rattle.pool.specs.Pool.{PoolCall, PoolRequest, PoolAnswer, to, alloc, free, trim, host_in, pool_step, refused, granted, trimmed, no_block, freed}
use Rattle.pool.specs.Observed.{pool_events, pool_after, heap_calls, observed_of, pool_calls_of, pool_answers_of, pool_runs_of}

-- two entries, of takes and of allocs, not yet released or freed share a byte exactly when they are the same entry, none has a byte of a page held by hand,
-- and all lie in the arena
pub record PoolDisjoint (size : ℕ) (rules : Rules) (xs : List PoolCall) : Type 0 where
  pub disjoint : Disjoint (observed_of (pool_events size rules xs))
  pub iso : IsoDisjoint size (observed_of (pool_events size rules xs))

-- the heap's part is what the heap's calls leave, and of these none that the pool made is refused: all that is proved of their histories holds of it
pub record OnHeap (size : ℕ) (rules : Rules) (xs : List PoolCall) : Type 0 where
  pub heap : (pool_after size rules xs).heap ≡ heap_after size rules (heap_calls size rules xs)
  pub done : All (λ v. is_pooled v.call ≡ true → is_refused v.answer ≡ false) (events size rules (heap_calls size rules xs))
  -- of the heap's classes and of the pages held by hand they tell what the history tells
  pub out : (c w : ℕ) → ltb c class_count ≡ true → OutIn (events size rules (heap_calls size rules xs)) c w ↔ OutIn (observed_of (pool_events size rules xs)) c w
  pub hand : (x : ℕ) → direct_after (events size rules (heap_calls size rules xs)) x ≡ direct_after (observed_of (pool_events size rules xs)) x

-- a free puts its block into a stock of k blocks exactly if that then holds 8 at most, or 255 at most of not more than 256 KiB together
abbrev pub StockMost : ℕ → ℕ → Type 0
StockMost c k = (k < stock_most c) ↔ ((k < 8) ⊎ ((k < 255) × (suc k * ((shape_of c).block * 16) ≤ 262144)))

-- what is answered to a request
abbrev pub answer_to : ℕ → Rules → List PoolCall → ℕ → PoolRequest → PoolAnswer
answer_to size rules xs c x = (pool_step size (pool_after size rules xs) (to c x)).answer

-- what it leaves of the heap and in the class's stock; what a call of the heap leaves
pub record Leaves (size : ℕ) (rules : Rules) (xs : List PoolCall) (c : ℕ) (x : PoolRequest) (H : Heap) (st : List ℕ) : Type 0 where
  pub heap : (pool_step size (pool_after size rules xs) (to c x)).pool.heap ≡ H
  pub stock : (pool_step size (pool_after size rules xs) (to c x)).pool.stock c ≡ st

abbrev pub heap_next : ℕ → Rules → List PoolCall → Call → Heap
heap_next size rules xs y = (step size (pool_after size rules xs).heap y).heap

-- a free is carried out exactly if its block is a grant of that class not yet freed, and else is number 9 or 10
pub record Frees (size : ℕ) (rules : Rules) (xs : List PoolCall) (c h w : ℕ) : Type 0 where
  pub done : bad_host h ≡ false → ltb c class_count ≡ true → (answer_to size rules xs c (free h w) ≡ freed) ↔ OutIn (observed_of (pool_events size rules xs)) (pool_id c) w
  pub kind : bad_host h ≡ false → ltb c class_count ≡ true → of_kind (shape_of (pool_id c)).kind w ≡ false → answer_to size rules xs c (free h w) ≡ refused 9
  pub stale : bad_host h ≡ false → ltb c class_count ≡ true → of_kind (shape_of (pool_id c)).kind w ≡ true → (OutIn (observed_of (pool_events size rules xs)) (pool_id c) w → ⊥)
      → answer_to size rules xs c (free h w) ≡ refused 10
  -- the block comes on top of the stock where that holds less than its most, and else goes to the heap; the other blocks stay
  pub stocks : bad_host h ≡ false → ltb c class_count ≡ true → OutIn (observed_of (pool_events size rules xs)) (pool_id c) w → ltb (length ((pool_after size rules xs).stock c)) (stock_most c) ≡ true
      → Leaves size rules xs c (free h w) (pool_after size rules xs).heap (w ∷ (pool_after size rules xs).stock c)
  pub returns : bad_host h ≡ false → ltb c class_count ≡ true → OutIn (observed_of (pool_events size rules xs)) (pool_id c) w → ltb (length ((pool_after size rules xs).stock c)) (stock_most c) ≡ false
      → Leaves size rules xs c (free h w) (heap_next size rules xs (pooled_release c h (w ∷ []))) ((pool_after size rules xs).stock c)

-- an alloc answers none exactly if the class has no block in stock, every block of every run of it is out by the heap's calls, and the arena
-- has no run for it; else it is granted a block that is no grant yet, and with blocks in stock their top, which leaves the others
pub record Allocs (size : ℕ) (rules : Rules) (xs : List PoolCall) (c h : ℕ) : Type 0 where
  pub none : (answer_to size rules xs c (alloc h) ≡ no_block)
      ↔ (((pool_after size rules xs).stock c ≡ []) × Spent (events size rules (heap_calls size rules xs)) (pool_id c)
      × ((Arenas.commit size h (shape_of (pool_id c)).pages (pool_after size rules xs).heap.arena).run ≡ none))
  pub some : (answer_to size rules xs c (alloc h) ≡ no_block → ⊥)
      → (w : ℕ) × (answer_to size rules xs c (alloc h) ≡ granted w) × (OutIn (observed_of (pool_events size rules xs)) (pool_id c) w → ⊥)
  pub top : (w : ℕ) (ws : List ℕ) → (pool_after size rules xs).stock c ≡ w ∷ ws
      → (answer_to size rules xs c (alloc h) ≡ granted w) × Leaves size rules xs c (alloc h) (pool_after size rules xs).heap ws
  -- with none it is a take: of its blocks the one that was popped first, the last of its list, is granted, and the others come into stock, the next one to be
  -- granted that was popped next
  pub refill : (pool_after size rules xs).stock c ≡ [] → (w : ℕ) (ws : List ℕ)
      → reverse (blocks_of (step size (pool_after size rules xs).heap (pooled_take c h blank)).answer) ≡ w ∷ ws
      → (answer_to size rules xs c (alloc h) ≡ granted w) × Leaves size rules xs c (alloc h) (heap_next size rules xs (pooled_take c h blank)) ws
  pub bare : (pool_after size rules xs).stock c ≡ [] → blocks_of (step size (pool_after size rules xs).heap (pooled_take c h blank)).answer ≡ []
      → Leaves size rules xs c (alloc h) (heap_next size rules xs (pooled_take c h blank)) []

-- a trim answers none exactly if the class has no block in stock; else the stock's top, and leaves the others
pub record Trims (size : ℕ) (rules : Rules) (xs : List PoolCall) (c h : ℕ) : Type 0 where
  pub none : (answer_to size rules xs c (trim h) ≡ no_block) ↔ ((pool_after size rules xs).stock c ≡ [])
  pub top : (w : ℕ) (ws : List ℕ) → (pool_after size rules xs).stock c ≡ w ∷ ws
      → (answer_to size rules xs c (trim h) ≡ trimmed w) × Leaves size rules xs c (trim h) (heap_next size rules xs (pooled_release c h (w ∷ []))) ws

-- a refused request changes nothing, and makes no call of the heap; its number is 3, 4, 9 or 10, and 3 and 4 come first
pub record Unchanged (size : ℕ) (rules : Rules) (xs : List PoolCall) (c : ℕ) (x : PoolRequest) : Type 0 where
  pub same : (n : ℕ) → answer_to size rules xs c x ≡ refused n
      → ((pool_step size (pool_after size rules xs) (to c x)).pool ≡ pool_after size rules xs) × ((pool_step size (pool_after size rules xs) (to c x)).calls ≡ [])
  pub low : (n : ℕ) → answer_to size rules xs c x ≡ refused n → elem n (3 ∷ 4 ∷ 9 ∷ 10 ∷ []) ≡ true
  pub host : bad_host (host_in x) ≡ true → answer_to size rules xs c x ≡ refused 3
  pub class : bad_host (host_in x) ≡ false → ltb c class_count ≡ false → answer_to size rules xs c x ≡ refused 4

-- a block out of the heap in a class of the pool is granted or in stock, and each of these once; one in a class of the heap is an entry of it
pub record Conserved (size : ℕ) (rules : Rules) (xs : List PoolCall) : Type 0 where
  pub out : (c w : ℕ) → (out_here (shape_of (pool_id c)) ((pool_after size rules xs).heap.classes (pool_id c)) w ≡ true)
      ↔ (OutIn (observed_of (pool_events size rules xs)) (pool_id c) w ⊎ (elem w ((pool_after size rules xs).stock c) ≡ true))
  pub entries : (c w : ℕ) → ltb c class_count ≡ true
      → (out_here (shape_of c) ((pool_after size rules xs).heap.classes c) w ≡ true) ↔ OutIn (observed_of (pool_events size rules xs)) c w
  pub either : (c w : ℕ) → OutIn (observed_of (pool_events size rules xs)) (pool_id c) w → elem w ((pool_after size rules xs).stock c) ≡ false
  pub once : (c : ℕ) → distinct ((pool_after size rules xs).stock c) ≡ true
  -- as many trims as there are blocks in stock, or more, leave none there
  pub trims : (c h k : ℕ) → bad_host h ≡ false → ltb c class_count ≡ true → length ((pool_after size rules xs).stock c) ≤ k
      → (pool_after size rules (xs ++ replicate k (to c (trim h)))).stock c ≡ []

-- where the calls of a class, the heap's or the pool's, are equal, its answers are equal exactly when what the arena gave it is; c is its id
pub record PoolAlone (size size' : ℕ) (rules rules' : Rules) (c : ℕ) (xs ys : List PoolCall) : Type 0 where
  pub alone : rules c ≡ rules' c → pool_calls_of c xs ≡ pool_calls_of c ys
      → (pool_answers_of c (pool_events size rules xs) ≡ pool_answers_of c (pool_events size' rules' ys)) ↔ (pool_runs_of c (pool_events size rules xs) ≡ pool_runs_of c (pool_events size' rules' ys))
