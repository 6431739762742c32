-- What a caller sees of the exported functions, in the words of the demands (crate demands) and no longer of the contracts. Assumes
-- nothing.
--     Numbered           the number that a call answers is document 01's (demand 1)
--     Observed           that, and the call's reply is the one that the histories of demands 2 and 3 are made of
--     Opened             the same of an opening, which starts a history
--     RequestObserved    the same of an alloc, a free or a trim; `AfterMixed`, what the calls that only read tell after a mixed history
--     .. Observed        Observed, for what the functions of one shape are lent
-- r is what the function returns; a name with ' is what a lent slice or an out-parameter holds afterwards.
use Rattle.std.specs.Prelude.{ℕ, ◌<◌, List, ◌⊎◌, ◌↔◌, ◌≡◌, true, eqb, ltb, length}
use Rattle.words.specs.Limits.{class_rows}
use Rattle.classes.specs.Shape.{shape_of, class_count, pool_id, number_of}
use Rattle.model.specs.Cover.{in_run}
use Rattle.model.specs.Calls as Calls
use Rattle.model.specs.Calls.{Call, taken, fate, fates, released, contained, reported}
use Rattle.model.specs.History.{Event, events}
use Rattle.model.specs.Entries.{OutIn}
use Rattle.model.specs.Offered.{HasRun}
use Rattle.pages.specs.Stack.{page_at}
use Rattle.pool.specs.Pool.{PoolCall, PoolRequest, to, alloc, free, trim, granted, trimmed}
use Rattle.poolcalls.specs.Stock.{stock_in}
use Rattle.poolcalls.specs.Calls.{PoolReply, pool_reply}
use Rattle.refinement.specs.Direct.{Reply, reply}
use Rattle.vigbuso.specs.Direct.{figures_in}
use Rattle.demands.specs.Call.{call}
use Rattle.demands.specs.Run.{Opens}
use Rattle.demands.specs.Contracts.{run_observed}
use Rattle.demands.specs.Mixed.{pool_call, mixed_book, mixed_observed, made}
use Rattle.demands.specs.PoolContracts.{block_observed, free_observed}
use Rattle.demands.specs.PoolRefusals.{alloc_table, free_table, trim_table, GrantedAnswer, StockedAnswer, ClassAnswer}
use Rattle.demands.specs.Refusals.{Row, Refuses, Contains, open_table, commit_table, grow_table, give_table, report_table, take_table, release_table, chunks_table, rate_table, game_table, plan_table, listing_table, trace_table}
use Rattle.demands.specs.ClassTables.{ClassTable, Reaches}
use Rattle.demands.specs.Game.{AskerWins}
use Rattle.demands.specs.Plan.{Fits}
use Rattle.demands.specs.Idle.{Idle}
use Rattle.demands.specs.Parking.{Parking}
use Rattle.demands.specs.Trace.{Traces}
use Rattle.demands.specs.Start.{Start, opening, trace, Starts, pages, rules, begun, book_after}
use Rattle.demands.specs.Listing.{ShortHistories}

-- Same: all that the call was lent to write is as it was
abbrev pub Numbered : List ℕ → Call → ℕ → Type 0 → Type 0
Numbered b (Calls.take_blocks c h l) r Same = Refuses (take_table 0 64 b c h l) r Same
Numbered b (Calls.medium_take_blocks c h l) r Same = Refuses (take_table 64 12 b c h l) r Same
Numbered b (Calls.release_blocks c h ws) r Same = Refuses (release_table 0 64 b c h ws) r Same
Numbered b (Calls.medium_release_blocks c h ws) r Same = Refuses (release_table 64 12 b c h ws) r Same
Numbered b (Calls.pooled_take c h l) r Same = Refuses (take_table class_count class_count b c h l) r Same
Numbered b (Calls.pooled_release c h ws) r Same = Refuses (release_table class_count class_count b c h ws) r Same
Numbered b (Calls.release_bin_chunks c h ws gs fs) r Same = Refuses (chunks_table b c h ws gs fs) r Same
Numbered b (Calls.commit h m) r Same = Refuses (commit_table b h m) r Same
Numbered b (Calls.grow_frontier h q old new) r Same = Refuses (grow_table b h q old new) r Same
Numbered b (Calls.release h q m) r Same = Refuses (give_table b h q m) r Same
Numbered b (Calls.contains o k) r Same = Contains b o k r
Numbered b Calls.report r Same = Refuses (report_table b) r Same

-- the call x on the book b returned r; w is what is read of its answer and its book
pub record Observed (b : List ℕ) (x : Call) (r : ℕ) (w : Reply) (Same : Type 0) : Type 0 where
  pub number : Numbered b x r Same
  pub replies : w ≡ call b x

-- with the rule rows ws
pub record Opened (n : ℕ) (ws : List ℕ) (r : ℕ) (b b' : List ℕ) : Type 0 where
  pub number : Refuses (open_table b n ws) r (b' ≡ b)
  pub opens : (r ≡ 0) ↔ Opens n ws b
  pub book : b' ≡ begun (opening n ws b)
  pub parks : r ≡ 0 → Parking (opening n ws b)

-- ---- the shapes
abbrev pub TakeObserved : (List ℕ → Call) → ℕ → (b b' l l' : List ℕ) → (k k' v v' : ℕ) → Type 0
TakeObserved x r b b' l l' k k' v v' = Observed b (x l) r (reply r (taken k' l' (eqb v' 1)) b') ((b' ≡ b) × (l' ≡ l) × (k' ≡ k) × (v' ≡ v))

abbrev pub ListObserved : Call → ℕ → (b b' : List ℕ) → (f f' : ℕ) → Type 0
ListObserved x r b b' f f' = Observed b x r (reply r (fate f') b') ((b' ≡ b) × (f' ≡ f))

abbrev pub ChunksObserved : (List ℕ → Call) → ℕ → (b b' fs fs' : List ℕ) → Type 0
ChunksObserved x r b b' fs fs' = Observed b (x fs) r (reply r (fates fs') b') ((b' ≡ b) × (fs' ≡ fs))

abbrev pub CommitObserved : Call → ℕ → (b b' : List ℕ) → (q q' f f' : ℕ) → Type 0
CommitObserved x r b b' q q' f f' = Observed b x r (reply r (run_observed q' f') b') ((b' ≡ b) × (q' ≡ q) × (f' ≡ f))

abbrev pub GrowObserved : Call → ℕ → (b b' : List ℕ) → (g g' : ℕ) → Type 0
GrowObserved x r b b' g g' = Observed b x r (reply r (Calls.grown (eqb g' 1)) b') ((b' ≡ b) × (g' ≡ g))

abbrev pub GiveObserved : Call → ℕ → (b b' : List ℕ) → Type 0
GiveObserved x r b b' = Observed b x r (reply r released b') (b' ≡ b)

-- these two are lent the book to read
abbrev pub ContainsObserved : Call → ℕ → List ℕ → Type 0
ContainsObserved x r b = Observed b x r (reply 0 (contained (eqb r 1)) b) (Unit {0})

-- and what the figures count on a book that a history left
pub record ReportObserved (r : ℕ) (b fs fs' : List ℕ) : Type 0 where
  pub observed : Observed b Calls.report r (reply r (reported (figures_in fs')) b) (fs' ≡ fs)
  pub idle : (s : Start) → Starts s → (xs : List Call) → b ≡ book_after s xs → Idle s xs r fs'

-- ---- class tables: the same of a call that is lent no book
pub record TableObserved (a b top slots r : ℕ) (l l' : List ℕ) : Type 0 where
  pub number : Refuses (rate_table a b top slots l) r (l' ≡ l)
  pub filled : r ≡ 0 → ClassTable a b top slots l l'
  pub exactly : Reaches a b top slots r l

-- ---- the game, likewise
pub record GameObserved (n limit k r w w' : ℕ) : Type 0 where
  pub number : Refuses (game_table n limit k) r (w' ≡ w)
  pub answers : r ≡ 0 → AskerWins n limit k w'

-- a plan is no call on a book: its number, and its total against every history of its takes
pub record PlanObserved (ks ts : List ℕ) (r t t' : ℕ) : Type 0 where
  pub number : Refuses (plan_table ks ts) r (t' ≡ t)
  pub fits : r ≡ 0 → Fits ks ts t'

-- ---- the listing
pub record ListingObserved (n k r : ℕ) (l l' : List ℕ) (w w' : ℕ) : Type 0 where
  pub number : Refuses (listing_table n k l) r ((l' ≡ l) × (w' ≡ w))
  pub lists : r ≡ 0 → ShortHistories n k l l' w'

-- ---- a trace: its number, the book that it starts a history with, and, where 1 and 2 do not apply, all that it did
pub record TraceObserved (n : ℕ) (b ws bl fl dn : List ℕ) (r : ℕ) (b' bl' fl' dn' : List ℕ) : Type 0 where
  pub number : Refuses (trace_table b n ws bl fl) r ((r ≡ 16 → ⊥) → (b' ≡ b) × (bl' ≡ bl) × (fl' ≡ fl) × (dn' ≡ dn))
  pub starts : ((r ≡ 0) ⊎ (r ≡ 16)) ↔ Starts (trace n b ws bl fl dn)
  pub book : b' ≡ begun (trace n b ws bl fl dn)
  pub did : Starts (trace n b ws bl fl dn) → Traces n b ws bl fl r b' bl' fl' dn'

-- ---- the pool: a class's request on any book
pub record RequestObserved (b : List ℕ) (c : ℕ) (x : PoolRequest) (rows : List Row) (r : ℕ) (s : PoolReply) (Same : Type 0) : Type 0 where
  pub number : Refuses rows r Same
  pub replies : s ≡ pool_call b (to c x)

abbrev pub AllocObserved : (c h r : ℕ) → (b b' : List ℕ) → (w w' : ℕ) → Type 0
AllocObserved c h r b b' w w' = RequestObserved b c (alloc h) (alloc_table b c h) r (pool_reply (block_observed granted r w') b') ((b' ≡ b) × (w' ≡ w))

abbrev pub FreeObserved : (c h w r : ℕ) → (b b' : List ℕ) → Type 0
FreeObserved c h w r b b' = RequestObserved b c (free h w) (free_table b c h w) r (pool_reply (free_observed r) b') (b' ≡ b)

abbrev pub TrimObserved : (c h r : ℕ) → (b b' : List ℕ) → (w w' : ℕ) → Type 0
TrimObserved c h r b b' w w' = RequestObserved b c (trim h) (trim_table b c h) r (pool_reply (block_observed trimmed r w') b') ((b' ≡ b) × (w' ≡ w))

-- what holds of every mixed history that left the book b: of what it tells, and of the heap's calls that were made with what the arena gave at each
abbrev pub AfterMixed : List ℕ → (List Event → List Event → Type 0) → Type 0
AfterMixed b P = (s : Start) → Starts s → (xs : List PoolCall) → b ≡ mixed_book s xs → P (mixed_observed s xs) (events (pages s) (rules s) (made s xs))

pub record GrantedObserved (b : List ℕ) (c w r : ℕ) : Type 0 where
  pub answer : GrantedAnswer b c w r
  pub observed : AfterMixed b (λ vs us. (r ≡ 1) ↔ ((ltb c class_count ≡ true) × OutIn vs (pool_id c) w))

pub record StockedObserved (b : List ℕ) (c r : ℕ) : Type 0 where
  pub answer : StockedAnswer b c r
  pub observed : ltb c class_count ≡ true → AfterMixed b (λ vs us. r ≡ length (stock_in b c))

pub record ClassObserved (b : List ℕ) (w r : ℕ) : Type 0 where
  pub answer : ClassAnswer b w r
  pub observed : (c q : ℕ) → AfterMixed b (λ vs us. c < class_rows → HasRun c q us → in_run (shape_of c).pages q (page_at w) ≡ true → r ≡ number_of c)
  pub none : AfterMixed b (λ vs us. ((c q : ℕ) → c < class_rows → HasRun c q us → in_run (shape_of c).pages q (page_at w) ≡ true → ⊥) → r ≡ class_count)
