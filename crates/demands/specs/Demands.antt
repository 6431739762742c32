-- Demands 2 and 3, as statements about every history of calls on the words, from an opening or a trace on any book. proofs/Theorems proves them.
use Rattle.std.specs.Prelude.{ℕ, ◌+◌, ◌-◌, ◌/◌, ◌≤◌, ◌<◌, Bool, true, false, List, [], ◌∷◌, ◌⊎◌, ◌↔◌, ◌≡◌, length, get_or}
use Rattle.std.proofs.Math.Option.{Option, none, some}
use Rattle.facts.specs.Lists.{is_nil, every, total}
use Rattle.words.specs.Host.{host_max, commit_granted}
use Rattle.classes.specs.Sizes.{small_sizes, medium_sizes, page_bytes}
use Rattle.classes.specs.Shape.{shape_of}
use Rattle.rules.specs.Rules.{Rules}
use Rattle.model.specs.declared.Hole.{Hole}
use Rattle.model.specs.Cover.{in_run}
use Rattle.model.specs.Calls as Calls
use Rattle.model.specs.Calls.{Call, Answer, Named, names, host_of, Request, blocks_of}
use Rattle.model.specs.HoleStore.{hole}
use Rattle.model.specs.Arena.{Arena, ready, with_status, with_frontier, more, draw}
use Rattle.model.specs.Class.{serve}
use Rattle.model.specs.Release.{of_kind}
use Rattle.model.specs.Chunks.{answer}
use Rattle.model.specs.Heap.{bad_run, answer_run, offer, step}
use Rattle.model.specs.History.{Event, answers, events, heap_after, calls_of, answers_of, runs_of}
use Rattle.model.specs.Entries.{Entry, Live, HasByte, block_bytes, OutIn, AllOut, direct_after}
use Rattle.model.specs.Offered.{Spent, NonePartial, Virgin}
use Rattle.model.specs.Sources.{Turns}
use Rattle.model.specs.BestFit.{Commits, usable}
use Rattle.model.specs.Joining.{NoTwoTouch, HasRoom, JoinedWhere}
use Rattle.model.specs.Demands.{Disjoint, IsoDisjoint}
use Rattle.arena.specs.Load.{load_arena}
use Rattle.refinement.specs.Direct.{Reply}
use Rattle.refinement.specs.Run.{answers_in}
use Rattle.demands.specs.Call.{call}
use Rattle.demands.specs.Run.{answered, recounted, recounted_with}
use Rattle.demands.specs.Start.{Start, pages, Starts, calls, book_after, replies, observed, rules}
use Rattle.demands.specs.Returns.{Twice, OneRun, ListOut, groups_fit, Plain, ChunksOut}

-- ---- Demand 3, "one claim about whole histories, not one for each call"
pub record Demand3 : Type 0 where
  -- two starts, on books and arenas of whatever lengths, two histories, a class that has the same limits in both (document 02, A.9; the others
  -- may have any) and whose calls are equal: its answers are equal exactly when what
  -- the arena gave it is, "worked from the opening over the arguments of all calls" (`events` sees no book)
  pub alone : (s₁ s₂ : Start) → Starts s₁ → Starts s₂ → (c : ℕ) → rules s₁ c ≡ rules s₂ c → (xs ys : List Call) → calls_of c (calls s₁ xs) ≡ calls_of c (calls s₂ ys)
      → (answers_of c (observed s₁ xs) ≡ answers_of c (observed s₂ ys)) ↔ (runs_of c (events (pages s₁) (rules s₁) (calls s₁ xs)) ≡ runs_of c (events (pages s₂) (rules s₂) (calls s₂ ys)))
  -- after every history, entries not yet released share a byte exactly when they are the same entry, and none has a byte of a page held
  -- by the direct calls
  pub disjoint : (s : Start) → Starts s → (xs : List Call) → Disjoint (observed s xs)

-- ---- Demand 2
-- a commit answered by best fit: a hole of the least sufficient length, fresh pages only if no hole suffices, none with its reason
pub record CommitFits (n h m : ℕ) (a : Arena) (x : Answer) : Type 0 where
  pub run : Option ℕ
  pub fresh : Bool
  pub fits : Commits n h m a run fresh
  pub answer : x ≡ answer_run run fresh

-- a class's call asks the arena for a run: it is a take, not refused, and every block of every run of the class is out by the history vs
abbrev pub is_take : Request → Bool
is_take (Calls.take h l) = true
is_take (Calls.give_back h ws) = false
is_take (Calls.give_chunks h ws gs fs) = false

pub record Asks (vs : List Event) (c : ℕ) (r : Request) (code : ℕ) : Type 0 where
  pub take : is_take r ≡ true
  pub unrefused : code ≡ 0
  pub spent : Spent vs c

-- what the arena gives a class at a call that asks (Asked) or not: nothing if it does not ask; if it does, none with its reason, or a
-- run of the class's length by best fit
pub data RunFits (n h m : ℕ) (a : Arena) (Asked : Type 0) : Option Hole → Type 0 where
  unasked : (Asked → ⊥) → RunFits n h m a Asked none
  nothing : Asked → Commits n h m a none false → RunFits n h m a Asked none
  given : Asked → (q : ℕ) (fresh : Bool) → Commits n h m a (some q) fresh → RunFits n h m a Asked (some (hole q m))

-- a growth by m pages of a run that ends before page e: yes if it ends at the frontier, the arena suffices and the commit is granted,
-- else no, with its reason
pub data Grows (n h e m : ℕ) (a : Arena) : Bool → Type 0 where
  grew : a.frontier ≡ e → e + m ≤ n → commit_granted h ≡ true → Grows n h e m a true
  elsewhere : (a.frontier ≡ e → ⊥) → Grows n h e m a false
  exhausted : n < e + m → Grows n h e m a false
  ungranted : commit_granted h ≡ false → Grows n h e m a false

pub record GrowFits (n h e m : ℕ) (a : Arena) (x : Answer) : Type 0 where
  pub yes : Bool
  pub fits : Grows n h e m a yes
  pub answer : x ≡ Calls.grown yes

-- a run was abandoned: the holes are as they were, and the count is one more
pub record Abandoned (a a' : Arena) : Type 0 where
  pub holes : a'.store.holes ≡ a.store.holes
  pub counted : a'.abandoned ≡ more a.abandoned

-- m pages from q on were given to the arena a, which is then a' (document 02, A.4): where the total allows it and they touch a hole or a slot
-- is free, they are joined to the holes that they touch, or appended; else they are abandoned
pub record GivenTo (m q : ℕ) (a a' : Arena) : Type 0 where
  pub joined : HasRoom m q a.store → JoinedWhere m q a.store.holes a'.store.holes
  -- where they are stored, no run is counted as abandoned
  pub uncounted : HasRoom m q a.store → a'.abandoned ≡ a.abandoned
  pub abandoned : (HasRoom m q a.store → ⊥) → Abandoned a a'
  -- a give never moves the frontier
  pub frontier : a'.frontier ≡ a.frontier

-- runs of m pages, given one after the other
pub data GivenInTurn (m : ℕ) : List ℕ → Arena → Arena → Type 0 where
  all-given : (a : Arena) → GivenInTurn m [] a a
  first-given : (q : ℕ) (qs : List ℕ) (a a₁ a' : Arena) → GivenTo m q a a₁ → GivenInTurn m qs a₁ a' → GivenInTurn m (q ∷ qs) a a'

-- the run lies in the arena, of n pages, and nobody has a page of it: none is held by the direct calls, and no entry not yet released
-- has a byte in it
pub record Unused (n : ℕ) (vs : List Event) (q m : ℕ) : Type 0 where
  pub inside : q + m ≤ n
  pub off_direct : (k : ℕ) → k < m → direct_after vs (q + k) ≡ false
  pub off_blocks : (e : Entry) → Live 0 vs e → (b : ℕ) → HasByte e b → in_run m q (b / page_bytes) ≡ false

-- after the calls xs since an opening of n pages with these limits, answered rs, which left the book b; the arena, holes and all, is what the words of the book
-- say it is
pub record Demand2At (n : ℕ) (limits : Rules) (b : List ℕ) (xs : List Call) (rs : List Reply) : Type 0 where
  -- each call answers what document 01's rules say, and the arena that the words hold is the one that they lead to
  pub rules : answers_in rs ≡ answers n limits xs
  pub arena : load_arena b ≡ (heap_after n limits xs).arena
  pub commits : (h m : ℕ) → h ≤ host_max → bad_run m ≡ false → CommitFits n h m (load_arena b) (call b (Calls.commit h m)).answer
  pub runs : (x : Call) (d : Named) → names x ≡ some d
      → RunFits n (host_of d.request) (shape_of d.class).pages (load_arena b) (Asks (recounted n limits xs rs) d.class d.request (call b x).code)
      (step n (heap_after n limits xs) x).run
  -- a take that is not refused answers a block, or every block of every run of its class is out and the arena has no run for it
  pub takes : (x : Call) (c h : ℕ) (l : List ℕ) → names x ≡ some (record { class = c; request = Calls.take h l }) → (call b x).code ≡ 0
      → (is_nil (blocks_of (call b x).answer) ≡ false) ⊎ (Spent (recounted n limits xs rs) c × Commits n h (shape_of c).pages (load_arena b) none false)
  -- one that answers fewer blocks than it may leaves none at hand in a run of its class that has one out; none answers more
  pub fewer : (x : Call) (c h : ℕ) (l : List ℕ) → names x ≡ some (record { class = c; request = Calls.take h l }) → (call b x).code ≡ 0
      → length (blocks_of (call b x).answer) < (shape_of c).batch → NonePartial (recounted_with n limits b xs rs x) c
  pub most : (x : Call) (c h : ℕ) (l : List ℕ) → names x ≡ some (record { class = c; request = Calls.take h l }) → (call b x).code ≡ 0
      → length (blocks_of (call b x).answer) ≤ (shape_of c).batch
  -- its blocks come from the sources in order: partial runs, an empty one, a cold one, each exactly if the class has one and none of an earlier
  -- source, by the history before it
  pub sources : (x : Call) (c h : ℕ) (l : List ℕ) → names x ≡ some (record { class = c; request = Calls.take h l }) → (call b x).code ≡ 0
      → Turns (recounted n limits xs rs) c (record { call = x; answer = (call b x).answer; run = (step n (heap_after n limits xs) x).run })
  -- its virgin is yes exactly if a block came and each came from a run that no unrefused release had a block of since the arena gave it or a
  -- release parked it cold with a discard that zeroed it
  pub virgin : (x : Call) (c h : ℕ) (l : List ℕ) → names x ≡ some (record { class = c; request = Calls.take h l }) → (call b x).code ≡ 0
      → Virgin (recounted_with n limits b xs rs x) c (call b x).answer
  -- number 10 by the history: a release of one block is not refused exactly if the block is out in the class, which is that an entry of
  -- the class not yet released has its word
  pub returns : (c w : ℕ) (x : Call) (h : ℕ) → h ≤ host_max → names x ≡ some (record { class = c; request = Calls.give_back h (w ∷ []) })
      → ((call b x).code ≡ 0) ↔ OutIn (answered xs rs) c w
  -- so is a list exactly if numbers 3, 7 to 11 and 15 do not apply, by the history and by its words; so are groups
  pub returns_list : (c : ℕ) (x : Call) (h : ℕ) (ws : List ℕ) → names x ≡ some (record { class = c; request = Calls.give_back h ws })
      → ((call b x).code ≡ 0) ↔ ListOut (answered xs rs) c h ws
  pub returns_chunks : (c h : ℕ) (ws gs fs : List ℕ) → c < 64
      → ((call b (Calls.release_bin_chunks c h ws gs fs)).code ≡ 0) ↔ ChunksOut (answered xs rs) c h ws gs fs
  -- a list of the class's kind is refused as 15 if a block out in the class stands twice in it (document 02, A.2), whatever else it holds; else as
  -- 10 if its blocks are not all out; if they are, as 11 if they do not stand on one run
  pub repeated : (c : ℕ) (x : Call) (h : ℕ) (ws : List ℕ) → h ≤ host_max → names x ≡ some (record { class = c; request = Calls.give_back h ws })
      → is_nil ws ≡ false → every (of_kind (shape_of c).kind) ws ≡ true → Twice (answered xs rs) c ws → (call b x).answer ≡ Calls.refused 15
  pub not_out : (c : ℕ) (x : Call) (h : ℕ) (ws : List ℕ) → h ≤ host_max → names x ≡ some (record { class = c; request = Calls.give_back h ws })
      → is_nil ws ≡ false → every (of_kind (shape_of c).kind) ws ≡ true → (Twice (answered xs rs) c ws → ⊥) → (AllOut (answered xs rs) c ws → ⊥) → (call b x).answer ≡ Calls.refused 10
  pub not_together : (c : ℕ) (x : Call) (h : ℕ) (ws : List ℕ) → h ≤ host_max → names x ≡ some (record { class = c; request = Calls.give_back h ws })
      → is_nil ws ≡ false → every (of_kind (shape_of c).kind) ws ≡ true → AllOut (answered xs rs) c ws → (OneRun (shape_of c) ws → ⊥)
      → (call b x).answer ≡ Calls.refused 11
  -- so with groups
  pub repeated_chunks : (c h : ℕ) (ws gs fs : List ℕ) → c < 64 → Plain c h ws gs fs → Twice (answered xs rs) c ws
      → (call b (Calls.release_bin_chunks c h ws gs fs)).answer ≡ Calls.refused 15
  pub not_out_chunks : (c h : ℕ) (ws gs fs : List ℕ) → c < 64 → Plain c h ws gs fs → (Twice (answered xs rs) c ws → ⊥) → (AllOut (answered xs rs) c ws → ⊥)
      → (call b (Calls.release_bin_chunks c h ws gs fs)).answer ≡ Calls.refused 10
  pub not_grouped : (c h : ℕ) (ws gs fs : List ℕ) → c < 64 → Plain c h ws gs fs → AllOut (answered xs rs) c ws → groups_fit ws gs ≡ false
      → (call b (Calls.release_bin_chunks c h ws gs fs)).answer ≡ Calls.refused 11
  -- a run can be released directly exactly if each of its pages is held by the direct calls
  pub releases : (h q m : ℕ) → h ≤ host_max → bad_run m ≡ false
      → ((call b (Calls.release h q m)).code ≡ 0) ↔ ((k : ℕ) → k < m → direct_after (answered xs rs) (q + k) ≡ true)
  -- else it is refused as 12
  pub unheld : (h q m : ℕ) → h ≤ host_max → bad_run m ≡ false → (k : ℕ) → k < m → direct_after (answered xs rs) (q + k) ≡ false
      → (call b (Calls.release h q m)).answer ≡ Calls.refused 12
  -- the total that a give looks at is the pages of all holes
  pub hole_total : (load_arena b).store.total ≡ total (λ x. x.pages) (load_arena b).store.holes
  -- no hole ends where another starts (document 02, A.4)
  pub no_two_touch : NoTwoTouch (load_arena b).store.holes
  -- a run released directly is given to the holes; so is the run that a commit which is not granted drew, and the pages of such a growth
  pub gives : (h q m : ℕ) → (call b (Calls.release h q m)).code ≡ 0 → GivenTo m q (load_arena b) (load_arena (call b (Calls.release h q m)).book)
  pub gives_back : (h m q : ℕ) → (call b (Calls.commit h m)).code ≡ 0 → usable h (load_arena b).status ≡ true → commit_granted h ≡ false
      → (draw n m (with_status ready (load_arena b))).run ≡ some q
      → GivenTo m q (draw n m (with_status ready (load_arena b))).arena (load_arena (call b (Calls.commit h m)).book)
  pub gives_growth : (h q old new : ℕ) → (call b (Calls.grow_frontier h q old new)).code ≡ 0
      → (load_arena b).frontier ≡ q + old → q + old + (new - old) ≤ n → commit_granted h ≡ false
      → GivenTo (new - old) (q + old) (with_frontier (q + old + (new - old)) (load_arena b)) (load_arena (call b (Calls.grow_frontier h q old new)).book)
  -- a call of a class that is not refused gives the class's runs in turn, after the commit that it asked for
  pub gives_of_class : (x : Call) (d : Named) → names x ≡ some d → (call b x).code ≡ 0
      → (let q = answer (shape_of d.class) ((heap_after n limits xs).rules d.class) ((heap_after n limits xs).classes d.class) d.request in
      let g = offer n (host_of d.request) (load_arena b) q in
      GivenInTurn (shape_of d.class).pages (serve q g.run).gives g.arena (load_arena (call b x).book))
  -- so with a growth, and one that is not refused is answered by `Grows`
  pub grows : (h q old new : ℕ) → h ≤ host_max → bad_run old ≡ false → bad_run new ≡ false → old < new
      → ((call b (Calls.grow_frontier h q old new)).code ≡ 0) ↔ ((k : ℕ) → k < old → direct_after (answered xs rs) (q + k) ≡ true)
  pub unheld_growth : (h q old new : ℕ) → h ≤ host_max → bad_run old ≡ false → bad_run new ≡ false → old < new → (k : ℕ) → k < old → direct_after (answered xs rs) (q + k) ≡ false
      → (call b (Calls.grow_frontier h q old new)).answer ≡ Calls.refused 12
  pub growths : (h q old new : ℕ) → h ≤ host_max → bad_run old ≡ false → bad_run new ≡ false → old < new
      → (call b (Calls.grow_frontier h q old new)).code ≡ 0
      → GrowFits n h (q + old) (new - old) (load_arena b) (call b (Calls.grow_frontier h q old new)).answer
  -- what is given out lies in the arena and was nobody's: the run that a direct commit answers, the pages that a growth adds, the run that a class gets
  pub new_runs : (h m q : ℕ) (fresh : Bool) → (call b (Calls.commit h m)).answer ≡ Calls.run q fresh → Unused n (answered xs rs) q m
  pub new_pages : (h q old new : ℕ) → (call b (Calls.grow_frontier h q old new)).answer ≡ Calls.grown true → Unused n (answered xs rs) (q + old) (new - old)
  pub new_of_class : (x : Call) (d : Named) (r : Hole) → names x ≡ some d → (step n (heap_after n limits xs) x).run ≡ some r → Unused n (answered xs rs) r.first r.pages
  -- blocks not yet released lie in the arena and have no byte in common
  pub apart : IsoDisjoint n (answered xs rs)

-- after the calls xs since a start, which is an opening or a trace
abbrev pub Demand2 : Start → List Call → Type 0
Demand2 s xs = Demand2At (pages s) (rules s) (book_after s xs) (calls s xs) (replies s xs)

-- an entry's bytes, which `HasByte` counts in granules, are its class's size in document 01's tables
pub record TableBytes (e : Entry) : Type 0 where
  pub small : e.class < 64 → block_bytes e ≡ get_or small_sizes e.class 0
  pub medium : (k : ℕ) → e.class ≡ 64 + k → k < 12 → block_bytes e ≡ get_or medium_sizes k 0
