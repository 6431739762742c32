-- One history of every call by which a program can change a book: takes and releases, small and medium, group releases, direct commits, growths and `release`s,
-- `contains`, reports, allocs, frees and trims, refused ones included, in any order, from an opening or a trace; what the calls that only read tell behind it. Told from calls and answers, from the
-- book that the history leaves, and, where the heap is spoken of, from the heap calls that were made. proofs/Mixed proves it.
--     pool_call        one call on any book, by the definitions that the exported functions' contracts cite
--     mixed_book       the book that a history leaves
--     mixed_observed   the calls with their answers, in the words of document 01's histories: an alloc is a take of one block in the pool's class (`pool_id`), a free
--                     a release of one. So an entry is a place below the count of a take's answer, or an alloc's grant
--     MixedAt         what holds after every history; MixedDemand, that, and what compares whole histories
use Rattle.std.specs.Prelude.{ℕ, suc, ◌+◌, ◌*◌, ◌≤◌, ◌<◌, ◌≡◌, ◌⊎◌, ◌↔◌, List, [], ◌∷◌, ◌++◌, map, reverse, true, false, cond, ltb, length, replicate}
use Rattle.std.proofs.Math.Option.{none, some}
use Rattle.facts.specs.Lists.{All, is_nil, every, elem, distinct}
use Rattle.words.specs.Host.{bad_host, host_max}
use Rattle.words.specs.Limits.{class_rows}
use Rattle.classes.specs.Sizes.{granule_bytes}
use Rattle.classes.specs.Shape.{shape_of, class_count, pool_id, number_of}
use Rattle.rules.specs.Rules.{Rules}
use Rattle.model.specs.Cover.{in_run}
use Rattle.model.specs.Calls as Calls
use Rattle.model.specs.Calls.{Call, names, give_back, pooled_take, pooled_release, is_pooled, is_refused, blocks_of}
use Rattle.model.specs.Arena as Arenas
use Rattle.model.specs.Release.{of_kind}
use Rattle.model.specs.Heap.{bad_run}
use Rattle.model.specs.History.{Event, events, heap_after}
use Rattle.model.specs.Entries.{OutIn, AllOut, direct_after}
use Rattle.model.specs.Offered.{Spent, HasRun}
use Rattle.model.specs.Demands.{Disjoint, IsoDisjoint}
use Rattle.arena.specs.Load.{load_arena}
use Rattle.pages.specs.Stack.{page_at}
use Rattle.pool.specs.Stock.{count_max, blank}
use Rattle.pool.specs.Pool.{PoolCall, PoolAnswer, PoolRequest, to, heap, alloc, free, trim, host_in, answered, refused, granted, trimmed, no_block, freed}
use Rattle.pool.specs.Observed.{PoolEvent, observed_of, pool_events, heap_calls, pool_calls_of, pool_answers_of, pool_runs_of}
use Rattle.poolcalls.specs.Stock.{stock_in}
use Rattle.poolcalls.specs.Calls.{PoolReply, pool_reply}
use Rattle.vigbuso.specs.Pool.{pool_on, class_on, granted_on, stocked_on}
use Rattle.poolrefinement.specs.Run.{pool_answers_from, book_from}
use Rattle.refinement.specs.Run.{replies_from, answers_in}
use Rattle.demands.specs.Call.{call}
use Rattle.demands.specs.Run as Opening
use Rattle.demands.specs.Start.{Start, Starts, pages, rule_rows, rules, lent, begun, did}
use Rattle.demands.specs.Returns.{Twice, ListOut, Plain, ChunksOut}

-- ---- histories
-- no function makes a pooled call by itself: as a caller's own it counts as refused by 4, for it names no class that a caller has
unfoldable pub pool_call : List ℕ → PoolCall → PoolReply
pool_call b (to c x) = pool_on b c x
pool_call b (heap x) = cond (is_pooled x) (pool_reply (answered (Calls.refused 4)) b) (pool_reply (answered (call b x).answer) (call b x).book)

abbrev pub mixed_book : Start → List PoolCall → List ℕ
mixed_book s xs = book_from pool_call (begun s) xs

-- since the opening: what a trace did stands in front
abbrev pub mixed_calls : Start → List PoolCall → List PoolCall
mixed_calls s xs = map heap (did s) ++ xs

abbrev pub mixed_answers : Start → List PoolCall → List PoolAnswer
mixed_answers s xs = map (λ r. answered r.answer) (Opening.run (pages s) (rule_rows s) (lent s) (did s)) ++ pool_answers_from pool_call (begun s) xs

-- what the arena gives at a call is not told
abbrev pub recorded : List PoolCall → List PoolAnswer → List PoolEvent
recorded [] zs = []
recorded (x ∷ xs) [] = []
recorded (x ∷ xs) (a ∷ zs) = record { call = x; answer = a; run = none } ∷ recorded xs zs

abbrev pub mixed_recorded : Start → List PoolCall → List PoolEvent
mixed_recorded s xs = recorded (mixed_calls s xs) (mixed_answers s xs)

abbrev pub mixed_observed : Start → List PoolCall → List Event
mixed_observed s xs = observed_of (mixed_recorded s xs)

-- the heap's calls that were made, a request's own among them, worked out by the rules on values from the arguments of all calls (`pool_step`)
abbrev pub made : Start → List PoolCall → List Call
made s xs = heap_calls (pages s) (rules s) (mixed_calls s xs)

-- ---- what a request leaves
-- the heap in two books answers every further history of its calls alike
abbrev pub HeapAlike : List ℕ → List ℕ → Type 0
HeapAlike d e = (ys : List Call) → answers_in (replies_from call d ys) ≡ answers_in (replies_from call e ys)

-- a request leaves this stock of its class, and the heap alike with this book
pub record Leaves (b : List ℕ) (c : ℕ) (x : PoolRequest) (st e : List ℕ) : Type 0 where
  pub stock : stock_in (pool_on b c x).book c ≡ st
  pub heap : HeapAlike (pool_on b c x).book e

-- an alloc answers none exactly if the class has no block in stock, every block of every run of it is out by the heap's calls, and the arena has no run
-- for it; else it is granted a block that is no grant yet: the stock's top, which leaves the others there and the heap as it is; or, with none in stock, of
-- a take's blocks the one popped first, which its list has last, and the others come into stock, popped next first
pub record AllocAnswers (n : ℕ) (limits : Rules) (b : List ℕ) (vs : List Event) (ys : List Call) (c h : ℕ) : Type 0 where
  pub none : ((pool_on b c (alloc h)).answer ≡ no_block)
      ↔ ((stock_in b c ≡ []) × Spent (events n limits ys) (pool_id c) × ((Arenas.commit n h (shape_of (pool_id c)).pages (load_arena b)).run ≡ none))
  pub some : ((pool_on b c (alloc h)).answer ≡ no_block → ⊥) → (w : ℕ) × ((pool_on b c (alloc h)).answer ≡ granted w) × (OutIn vs (pool_id c) w → ⊥)
  pub top : (w : ℕ) (ws : List ℕ) → stock_in b c ≡ w ∷ ws → ((pool_on b c (alloc h)).answer ≡ granted w) × Leaves b c (alloc h) ws b
  pub refill : stock_in b c ≡ [] → (w : ℕ) (ws : List ℕ) → reverse (blocks_of (call b (pooled_take c h blank)).answer) ≡ w ∷ ws
      → ((pool_on b c (alloc h)).answer ≡ granted w) × Leaves b c (alloc h) ws (call b (pooled_take c h blank)).book
  pub bare : stock_in b c ≡ [] → blocks_of (call b (pooled_take c h blank)).answer ≡ [] → Leaves b c (alloc h) [] (call b (pooled_take c h blank)).book

-- a stock of k blocks of the class has room for a freed one: fewer than 8, or fewer than 255 that are 256 KiB at most with this one
abbrev pub HasRoom : ℕ → ℕ → Type 0
HasRoom c k = (k < 8) ⊎ ((k < 255) × (suc k * ((shape_of c).block * granule_bytes) ≤ 262144))

-- a free is carried out exactly if its block is a grant of that class not yet freed, and else is number 9 or 10; the block comes on top of the stock where
-- that has room, and else goes back to the heap, and the others stay
pub record FreeAnswers (b : List ℕ) (vs : List Event) (c h w : ℕ) : Type 0 where
  pub done : ((pool_on b c (free h w)).answer ≡ freed) ↔ OutIn vs (pool_id c) w
  pub kind : of_kind (shape_of c).kind w ≡ false → (pool_on b c (free h w)).answer ≡ refused 9
  pub stale : of_kind (shape_of c).kind w ≡ true → (OutIn vs (pool_id c) w → ⊥) → (pool_on b c (free h w)).answer ≡ refused 10
  pub stocks : OutIn vs (pool_id c) w → HasRoom c (stocked_on b c) → Leaves b c (free h w) (w ∷ stock_in b c) b
  pub returns : OutIn vs (pool_id c) w → (HasRoom c (stocked_on b c) → ⊥) → Leaves b c (free h w) (stock_in b c) (call b (pooled_release c h (w ∷ []))).book

-- a trim answers none exactly if the class has no block in stock, and then leaves the book; else it answers the stock's top, which goes back to the heap, and
-- leaves the others there
pub record TrimAnswers (b : List ℕ) (c h : ℕ) : Type 0 where
  pub none : ((pool_on b c (trim h)).answer ≡ no_block) ↔ (stock_in b c ≡ [])
  pub still : stock_in b c ≡ [] → (pool_on b c (trim h)).book ≡ b
  pub top : (w : ℕ) (ws : List ℕ) → stock_in b c ≡ w ∷ ws → ((pool_on b c (trim h)).answer ≡ trimmed w) × Leaves b c (trim h) ws (call b (pooled_release c h (w ∷ []))).book

-- ---- after a history that left the book d and told vs; ys are the heap's calls that were made
pub record MixedAt (n : ℕ) (limits : Rules) (d : List ℕ) (vs : List Event) (ys : List Call) : Type 0 where
  -- disjoint: two entries not yet released or freed share a byte exactly when they are the same, none shares one with a page held by hand; all lie in the arena
  pub disjoint : Disjoint vs
  pub apart : IsoDisjoint n vs
  -- carried out exactly: a release exactly if its blocks are entries of that class of the heap not yet released, and numbers 3, 7 to 9, 11 and 15 do not apply; so are groups
  pub releases : (c : ℕ) (x : Call) (h : ℕ) (ws : List ℕ) → is_pooled x ≡ false → names x ≡ some (record { class = c; request = give_back h ws })
      → ((call d x).code ≡ 0) ↔ ListOut vs c h ws
  pub groups : (c h : ℕ) (ws gs fs : List ℕ) → c < 64 → ((call d (Calls.release_bin_chunks c h ws gs fs)).code ≡ 0) ↔ ChunksOut vs c h ws gs fs
  -- where all but the blocks is as it must be, and no block out stands twice, a block that is no entry of that class, a pool's among them, is refused as 10
  pub not_out : (c : ℕ) (x : Call) (h : ℕ) (ws : List ℕ) → is_pooled x ≡ false → names x ≡ some (record { class = c; request = give_back h ws }) → h ≤ host_max
      → is_nil ws ≡ false → every (of_kind (shape_of c).kind) ws ≡ true → (Twice vs c ws → ⊥) → (AllOut vs c ws → ⊥) → (call d x).answer ≡ Calls.refused 10
  pub not_out_groups : (c h : ℕ) (ws gs fs : List ℕ) → c < 64 → Plain c h ws gs fs → (Twice vs c ws → ⊥) → (AllOut vs c ws → ⊥)
      → (call d (Calls.release_bin_chunks c h ws gs fs)).answer ≡ Calls.refused 10
  -- a run is released or grown by hand exactly if each of its pages is held so
  pub hand : (h q m : ℕ) → h ≤ host_max → bad_run m ≡ false → ((call d (Calls.release h q m)).code ≡ 0) ↔ ((k : ℕ) → k < m → direct_after vs (q + k) ≡ true)
  pub growth : (h q old new : ℕ) → h ≤ host_max → bad_run old ≡ false → bad_run new ≡ false → old < new
      → ((call d (Calls.grow_frontier h q old new)).code ≡ 0) ↔ ((k : ℕ) → k < old → direct_after vs (q + k) ≡ true)
  -- requests: numbers 3 and 4 come first, in every one; then each is answered
  pub host : (c : ℕ) (x : PoolRequest) → bad_host (host_in x) ≡ true → (pool_on d c x).answer ≡ refused 3
  pub unknown : (c : ℕ) (x : PoolRequest) → bad_host (host_in x) ≡ false → ltb c class_count ≡ false → (pool_on d c x).answer ≡ refused 4
  pub allocs : (c h : ℕ) → bad_host h ≡ false → ltb c class_count ≡ true → AllocAnswers n limits d vs ys c h
  pub frees : (c h w : ℕ) → bad_host h ≡ false → ltb c class_count ≡ true → FreeAnswers d vs c h w
  pub trims : (c h : ℕ) → bad_host h ≡ false → ltb c class_count ≡ true → TrimAnswers d c h
  -- a request that is refused has number 3, 4, 9 or 10 (and leaves the book, as specs/PoolRefusals says of every book); 13 answers no call
  pub numbers : (c : ℕ) (x : PoolRequest) (k : ℕ) → (pool_on d c x).answer ≡ refused k → elem k (3 ∷ 4 ∷ 9 ∷ 10 ∷ []) ≡ true
  pub valid : (x : Call) → (call d x).code ≡ 13 → ⊥
  -- conserved: the arena that the words hold is the one that the calls made lead to; no call that the pool made is refused; what the heap has out by the calls that were made is, in a class of the heap, an entry; in a class of the
  -- pool, granted or in stock, and each of these once
  pub arena : load_arena d ≡ (heap_after n limits ys).arena
  pub made-done : All (λ v. is_pooled v.call ≡ true → is_refused v.answer ≡ false) (events n limits ys)
  pub entries : (c w : ℕ) → ltb c class_count ≡ true → OutIn (events n limits ys) c w ↔ OutIn vs c w
  pub out : (c w : ℕ) → ltb c class_count ≡ true → OutIn (events n limits ys) (pool_id c) w ↔ (OutIn vs (pool_id c) w ⊎ (elem w (stock_in d c) ≡ true))
  pub either : (c w : ℕ) → ltb c class_count ≡ true → OutIn vs (pool_id c) w → elem w (stock_in d c) ≡ false
  pub once : (c : ℕ) → ltb c class_count ≡ true → distinct (stock_in d c) ≡ true
  -- `vigbuso_granted` tells the grants not yet freed, `vigbuso_stocked` how many blocks are in stock
  pub granted : (c w : ℕ) → (granted_on d c w ≡ true) ↔ ((ltb c class_count ≡ true) × OutIn vs (pool_id c) w)
  pub stocked : (c : ℕ) → ltb c class_count ≡ true → stocked_on d c ≡ length (stock_in d c)
  -- by the history: as many as there are blocks out by the calls that were made and not granted
  pub stocked_out : (c : ℕ) → ltb c class_count ≡ true → (ws : List ℕ) → distinct ws ≡ true
      → ((w : ℕ) → (elem w ws ≡ true) ↔ (OutIn (events n limits ys) (pool_id c) w × (OutIn vs (pool_id c) w → ⊥))) → stocked_on d c ≡ length ws
  pub few : (c : ℕ) → ltb c class_count ≡ true → length (stock_in d c) ≤ count_max
  -- `vigbuso_class_of` tells the number of the class that has a run with the block's page, be it the heap's or the pool's, and 76 where none has
  pub class : (c q w : ℕ) → c < class_rows → HasRun c q (events n limits ys) → in_run (shape_of c).pages q (page_at w) ≡ true → class_on d w ≡ number_of c
  pub classless : (w : ℕ) → ((c q : ℕ) → c < class_rows → HasRun c q (events n limits ys) → in_run (shape_of c).pages q (page_at w) ≡ true → ⊥) → class_on d w ≡ class_count

pub record MixedDemand : Type 0 where
  pub after : (s : Start) → Starts s → (xs : List PoolCall) → MixedAt (pages s) (rules s) (mixed_book s xs) (mixed_observed s xs) (made s xs)
  -- each call answers what the rules of heap and pool say
  pub answers : (s : Start) → Starts s → (xs : List PoolCall) → mixed_answers s xs ≡ map (λ v. v.answer) (pool_events (pages s) (rules s) (mixed_calls s xs))
  -- two starts, two histories, a class of the heap or of the pool, by its id, with the same limits in both and whose calls are equal: its answers are equal exactly
  -- when what the arena gave it is, worked from the opening over the arguments of all calls (`pool_events` sees no book), whatever the other classes, heap,
  -- pool and hand, ask for besides
  pub alone : (s₁ s₂ : Start) → Starts s₁ → Starts s₂ → (c : ℕ) → rules s₁ c ≡ rules s₂ c → (xs ys : List PoolCall) → pool_calls_of c (mixed_calls s₁ xs) ≡ pool_calls_of c (mixed_calls s₂ ys)
      → (pool_answers_of c (mixed_recorded s₁ xs) ≡ pool_answers_of c (mixed_recorded s₂ ys))
      ↔ (pool_runs_of c (pool_events (pages s₁) (rules s₁) (mixed_calls s₁ xs)) ≡ pool_runs_of c (pool_events (pages s₂) (rules s₂) (mixed_calls s₂ ys)))
  -- as many trims as there are blocks in stock, or more, leave none there: what is out then is granted
  pub emptied : (s : Start) → Starts s → (xs : List PoolCall) (c h k : ℕ) → bad_host h ≡ false → ltb c class_count ≡ true → length (stock_in (mixed_book s xs) c) ≤ k
      → stock_in (mixed_book s (xs ++ replicate k (to c (trim h)))) c ≡ []
  -- the heap's part of the book is what the calls that were made leave: every further history of the heap's calls is answered as on the book that these leave by
  -- themselves, of which demand 2 speaks
  pub heap_part : (s : Start) → Starts s → (xs : List PoolCall) → HeapAlike (mixed_book s xs) (Opening.book_after (pages s) (rule_rows s) (lent s) (made s xs))
