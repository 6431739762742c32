-- The demands, as statements about every history from an opening of an arena of `size` pages. proofs/Theorems proves each.
use Rattle.std.specs.Prelude.{ℕ, ◌+◌, ◌*◌, ◌/◌, ◌≤◌, ◌<◌, ◌≡◌, ◌↔◌, List, [], map, true, false, length}
use Rattle.std.proofs.Math.Option.{some}
use Rattle.facts.specs.Lists.{total, below}
use Rattle.classes.specs.Sizes.{page_bytes}
use Rattle.classes.specs.Shape.{shape_of}
use Rattle.rules.specs.Rules.{Rules}
use Rattle.model.specs.declared.Figures.{Figures}
use Rattle.model.specs.Calls.{Call, Named, names, Request, take, list_of, Answer, is_refused, blocks_of}
use Rattle.model.specs.Arena as Arenas
use Rattle.model.specs.Class.{Class, Ask, done}
use Rattle.model.specs.Release.{out_here}
use Rattle.model.specs.Chunks.{answer}
use Rattle.model.specs.Heap.{Heap, is_held, is_direct, class_call, step}
use Rattle.model.specs.History.{Event, event_of, events, with_call, heap_after, calls_of, answers_of, runs_of, events_from, heap_from}
use Rattle.model.specs.Entries.{Entry, Live, OutIn, AllOut, HasByte, first_byte, block_bytes, direct_after}
use Rattle.model.specs.Ledger.{in_holes, above, runs_with, held_by, abandoned_from}
use Rattle.model.specs.Held.{gained, lost, parked_at, idle_at}
use Rattle.model.specs.BestFit.{Commits}
use Rattle.model.specs.HoleStore.{accepts}
use Rattle.model.specs.Joining.{NoTwoTouch, HasRoom, JoinedWhere}
use Rattle.model.specs.Order.{SameHeap, counts_aside}
use Rattle.model.specs.Yields.{Listed, TakeYields}
use Rattle.model.specs.Offered.{Spent, NonePartial, NoneListed, Virgin}
use Rattle.model.specs.Sources.{Turns}
use Rattle.model.specs.Heap.{new_heap}

-- Demand 2: a commit on the heap after a history answers by best fit, or none with its reason
pub record BestFit (size : ℕ) (rules : Rules) (xs : List Call) : Type 0 where
  pub commits : (h n : ℕ) → Commits size h n (heap_after size rules xs).arena (Arenas.commit size h n (heap_after size rules xs).arena).run (Arenas.commit size h n (heap_after size rules xs).arena).fresh

-- Document 02, A.4: after every history no two holes touch; a run that is then given is stored, not abandoned, exactly if there is room,
-- and stands where the request says
pub record Joining (size : ℕ) (rules : Rules) (xs : List Call) : Type 0 where
  pub no_two_touch : NoTwoTouch (heap_after size rules xs).arena.store.holes
  pub stored : (n q : ℕ) → (accepts n q (heap_after size rules xs).arena.store ≡ true) ↔ HasRoom n q (heap_after size rules xs).arena.store
  pub joined_where : (n q : ℕ) → 1 ≤ n → accepts n q (heap_after size rules xs).arena.store ≡ true
      → JoinedWhere n q (heap_after size rules xs).arena.store.holes (Arenas.give n q (heap_after size rules xs).arena).store.holes

-- Document 02, A.8: where two histories lead to heaps that differ in the order of their holes and in the three counts alone, every further
-- history is answered alike but for these counts in a report, with the same runs, and they go on differing in these alone
pub record Orderless (size : ℕ) (rules : Rules) (xs ys : List Call) : Type 0 where
  pub alike : SameHeap (heap_after size rules xs) (heap_after size rules ys) → (zs : List Call)
      → map (λ v. counts_aside v.answer) (events_from size (heap_after size rules xs) zs) ≡ map (λ v. counts_aside v.answer) (events_from size (heap_after size rules ys) zs)
  pub runs : SameHeap (heap_after size rules xs) (heap_after size rules ys) → (zs : List Call)
      → map (λ v. v.run) (events_from size (heap_after size rules xs) zs) ≡ map (λ v. v.run) (events_from size (heap_after size rules ys) zs)
  pub stays : SameHeap (heap_after size rules xs) (heap_after size rules ys) → (zs : List Call) → SameHeap (heap_from size (heap_after size rules xs) zs) (heap_from size (heap_after size rules ys) zs)

-- Demand 2: "Each source is tried only if the earlier gave no block", so a take is empty only if the arena was asked and gave none
pub record Yielding (size : ℕ) (rules : Rules) (xs : List Call) : Type 0 where
  pub listed : (c : ℕ) → Listed (shape_of c) ((heap_after size rules xs).classes c)
  pub takes : (c h : ℕ) (l : List ℕ) → TakeYields (answer (shape_of c) ((heap_after size rules xs).rules c) ((heap_after size rules xs).classes c) (take h l))

-- Demand 2: what is at hand is offered. The runs of a class and their blocks are told from the history, and its lists say no more than that:
-- a take asks the arena (`take_from`) exactly if every block of every run of its class is out. One that answers fewer blocks than it may
-- leaves none at hand in a run that has one out, and none answers more.
pub record Offered (size : ℕ) (rules : Rules) (xs : List Call) : Type 0 where
  pub spent : (c : ℕ) → Spent (events size rules xs) c ↔ NoneListed ((heap_after size rules xs).classes c)
  pub fewer : (x : Call) (c h : ℕ) (l : List ℕ) → names x ≡ some (record { class = c; request = take h l }) → is_refused (step size (heap_after size rules xs) x).answer ≡ false
      → length (blocks_of (step size (heap_after size rules xs) x).answer) < (shape_of c).batch → NonePartial (with_call size rules xs x) c
  pub most : (x : Call) (c h : ℕ) (l : List ℕ) → names x ≡ some (record { class = c; request = take h l }) → is_refused (step size (heap_after size rules xs) x).answer ≡ false
      → length (blocks_of (step size (heap_after size rules xs) x).answer) ≤ (shape_of c).batch

-- Demand 2: "partial pages from the list's head, otherwise one empty page, otherwise the newest cold page, otherwise a new one. Each source is
-- tried only if the earlier gave no block": what each source has is told from the history
pub record Sources (size : ℕ) (rules : Rules) (xs : List Call) : Type 0 where
  pub turns : (x : Call) (c h : ℕ) (l : List ℕ) → names x ≡ some (record { class = c; request = take h l }) → is_refused (step size (heap_after size rules xs) x).answer ≡ false
      → Turns (events size rules xs) c (event_of x (step size (heap_after size rules xs) x))

-- Demand 2: "Virgin is yes exactly if a block came and each came from a page not released to since it was last carved from the arena or from a
-- cold page whose discard zeroed it", told from the history
pub record Virgins (size : ℕ) (rules : Rules) (xs : List Call) : Type 0 where
  pub virgin : (x : Call) (c h : ℕ) (l : List ℕ) → names x ≡ some (record { class = c; request = take h l }) → is_refused (step size (heap_after size rules xs) x).answer ≡ false
      → Virgin (with_call size rules xs x) c (step size (heap_after size rules xs) x).answer

-- Demand 2: number 10's "out in this class" is what the history tells, and a release that is not refused, by list or by groups, has no
-- other word
pub record Outs (size : ℕ) (rules : Rules) (xs : List Call) : Type 0 where
  pub out : (c w : ℕ) → (out_here (shape_of c) ((heap_after size rules xs).classes c) w ≡ true) ↔ OutIn (events size rules xs) c w
  pub released : (x : Call) (d : Named) → names x ≡ some d → is_refused (step size (heap_after size rules xs) x).answer ≡ false → AllOut (events size rules xs) d.class (list_of d.request)

-- Conservation: every page is in exactly one place
pub record Conserved (size : ℕ) (rules : Rules) (xs : List Call) : Type 0 where
  pub one : (x : ℕ) → is_held ((heap_after size rules xs).holder x) + in_holes x (heap_after size rules xs).arena + above (heap_after size rules xs).arena.frontier x + abandoned_from size (new_heap rules) xs x ≡ 1
  pub classes : (c x : ℕ) → runs_with (shape_of c) x ((heap_after size rules xs).classes c) ≡ held_by c ((heap_after size rules xs).holder x)
  pub direct : (x : ℕ) → direct_after (events size rules xs) x ≡ is_direct ((heap_after size rules xs).holder x)
  pub hole_total : (heap_after size rules xs).arena.store.total ≡ total (λ h. h.pages) (heap_after size rules xs).arena.store.holes

-- Document 02, A.5: the figures of a report after the history count pages
pub record Figured (size : ℕ) (rules : Rules) (xs : List Call) (f : Figures) : Type 0 where
  -- those held, by the history: commits answered and growths answered yes add, gives take off, for classes and direct calls alike
  pub held-history : gained (events size rules xs) ≡ f.held + lost (events size rules xs)
  pub held-counts : f.held ≡ total (λ x. is_held ((heap_after size rules xs).holder x)) (below size)
  -- those idle, each once
  pub idle-counts : f.idle ≡ total (idle_at (heap_after size rules xs)) (below size)
  pub idle-once : (x : ℕ) → idle_at (heap_after size rules xs) x ≤ 1
  -- those parked: a page is held and idle exactly if it is one of them
  pub overlap_counts : f.overlap ≡ total (parked_at (heap_after size rules xs)) (below size)
  pub overlap_both : (x : ℕ) → ((is_held ((heap_after size rules xs).holder x) ≡ 1) × (idle_at (heap_after size rules xs) x ≡ 1)) ↔ (parked_at (heap_after size rules xs) x ≡ 1)
  -- the pages held or idle, and those abandoned, are the arena's
  pub arena-whole : f.held + f.idle + total (abandoned_from size (new_heap rules) xs) (below size) ≡ size + f.overlap

-- Demand 3, second half: two entries not yet released share a byte exactly when they are the same entry, and none has a byte of a
-- page held by the direct calls
pub record Disjoint (vs : List Event) : Type 0 where
  pub apart : (e e' : Entry) → Live 0 vs e → Live 0 vs e' → ((b : ℕ) × HasByte e b × HasByte e' b) ↔ ((e.call ≡ e'.call) × (e.place ≡ e'.place))
  pub off_direct : (e : Entry) → Live 0 vs e → (b : ℕ) → HasByte e b → direct_after vs (b / page_bytes) ≡ false

-- Demand 3, "one claim about whole histories"
pub record Demand3 (size : ℕ) : Type 0 where
  -- where a class's calls are equal, its answers are equal exactly when what the arena gave it is; document 02, A.9: "Two histories compared
  -- for one class give it the same limits", and the others' may differ
  pub alone : (rules rules' : Rules) (c : ℕ) (xs ys : List Call) → rules c ≡ rules' c → calls_of c xs ≡ calls_of c ys
      → (answers_of c (events size rules xs) ≡ answers_of c (events size rules' ys)) ↔ (runs_of c (events size rules xs) ≡ runs_of c (events size rules' ys))
  pub disjoint : (rules : Rules) (xs : List Call) → Disjoint (events size rules xs)

-- Demand 2 in ISO C's words (C11 7.22.3): each allocation that is not yet freed yields an object disjoint from any other. An
-- allocation's bytes lie in the arena, from its first byte on, as many as its class's block size; two have no byte in common.
pub record IsoDisjoint (size : ℕ) (vs : List Event) : Type 0 where
  pub in_arena : (e : Entry) → Live 0 vs e → first_byte e + block_bytes e ≤ size * page_bytes
  pub no_common : (e e' : Entry) → Live 0 vs e → Live 0 vs e' → ((e.call ≡ e'.call) × (e.place ≡ e'.place) → ⊥) → (i j : ℕ) → i < block_bytes e → j < block_bytes e' → first_byte e + i ≡ first_byte e' + j → ⊥

-- A.14 at the model: two neighbouring calls on different classes, one of which does not reach the arena, in either order
pub record Commute (size : ℕ) (H : Heap) (c d : ℕ) (x y : Request) : Type 0 where
  pub heap : (class_call size (class_call size H c x).heap d y).heap ≡ (class_call size (class_call size H d y).heap c x).heap
  pub first : (class_call size H c x).answer ≡ (class_call size (class_call size H d y).heap c x).answer
  pub second : (class_call size (class_call size H c x).heap d y).answer ≡ (class_call size H d y).answer

-- a call that does not reach the arena: it is done, and gives no run
pub data StaysHome : Ask → Type 0 where
  stays : (s : Class) (a : Answer) → StaysHome (done (record { class = s; answer = a; gives = [] }))
