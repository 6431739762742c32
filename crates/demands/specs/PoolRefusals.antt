-- Demand 1 for the pool's calls: the numbers that each can answer, in checking order, and whether each applies, as specs/Refusals has them for
-- the others. Where a call goes on to the heap, the heap's own numbers are among them. b is the book, c a class's number, h the host word, w a block's; the heap knows the class by its id (`pool_id`).
use Rattle.std.specs.Prelude.{ℕ, suc, ◌-◌, ◌≤◌, ◌<◌, cond, not, ◌&&◌, ◌||◌, ◌⊎◌, ◌↔◌, List, [], ◌∷◌, ◌++◌, ◌≡◌, eqb, ltb}
use Rattle.words.specs.Host.{bad_host, digit}
use Rattle.classes.specs.Shape.{shape_of, class_count, pool_id}
use Rattle.fields.specs.Field.{arena, page, size, frontier, owner, get}
use Rattle.model.specs.Release.{of_kind}
use Rattle.pages.specs.Stack.{page_at}
use Rattle.calls.specs.Out.{start_of, out_at}
use Rattle.pool.specs.Stock.{stock_most}
use Rattle.pool.specs.Pool.{alloc, free, trim}
use Rattle.poolcalls.specs.Stock.{count_in, block_in}
use Rattle.poolcalls.specs.Calls.{granted_in}
use Rattle.vigbuso.specs.Pool.{pool_on, class_on, granted_on, stocked_on, BlockEnds, FreeEnds}
use Rattle.demands.specs.Ranges.{format_is, frontier_fits, strays}
use Rattle.demands.specs.Reads.{take_reads, barren, mark_reads, release_reads, stock_reads, top_reads}
use Rattle.demands.specs.Refusals.{bad_length, too_short, no_class, Row, first_number, Refuses}

-- 4 is "The class is 64 or more, medium 12 or more.": the numbers of all classes are 0 to 75
abbrev pub pool_early : List ℕ → ℕ → ℕ → List Row
pool_early b c h =
    let n = get b (arena size) in
    (1, bad_length n) ∷ (2, too_short n b) ∷ (3, bad_host h) ∷ (4, no_class class_count c) ∷ []

-- vigbuso_alloc: where the stock is empty it is a take; its list is never too short
abbrev pub alloc_table : List ℕ → ℕ → ℕ → List Row
alloc_table b c h =
    let sh = shape_of (pool_id c) in
    pool_early b c h
    ++ (13, cond (eqb (count_in b c) 0) (strays b (take_reads b (pool_id c) sh) || barren b (pool_id c) sh) (strays b (top_reads b c)))
    ∷ []

-- vigbuso_free: a block that is not granted in this class is not out there, or is in stock (`granted_in`). Where the stock has no room, the block goes to a release, with that one's words
abbrev pub free_table : List ℕ → ℕ → ℕ → ℕ → List Row
free_table b c h w =
    let n = get b (arena size) in
    let sh = shape_of (pool_id c) in
    pool_early b c h
    ++ (9, not (of_kind sh.kind w))
    ∷ (10, not (granted_in n b c w))
    ∷ (13, cond (ltb (count_in b c) (stock_most c)) (strays b (format_is ∷ [])) (strays b (stock_reads c ++ (mark_reads b (pool_id c) sh (w ∷ []) ++ release_reads b (pool_id c) sh 1 (start_of b w)))))
    ∷ []

-- vigbuso_trim: a release of the stock's top, where there is one
abbrev pub trim_table : List ℕ → ℕ → ℕ → List Row
trim_table b c h =
    let n = get b (arena size) in
    let sh = shape_of (pool_id c) in
    let w = block_in b c (count_in b c - 1) in
    let some = not (eqb (count_in b c) 0) in
    pool_early b c h
    ++ (13, cond some (strays b (top_reads b c ++ mark_reads b (pool_id c) sh (w ∷ []))) (strays b (format_is ∷ [])))
    ∷ (10, some && not (out_at n b (pool_id c) sh w))
    ∷ (13, some && strays b (release_reads b (pool_id c) sh 1 (start_of b w)))
    ∷ []

-- what the contract of the function says is the premise, word for word; a prime marks what stands there afterwards
abbrev pub AllocRefuses : Type 0
AllocRefuses = (b : List ℕ) (c h r : ℕ) (b' : List ℕ) (w w' : ℕ) → BlockEnds (pool_on b c (alloc h)) r b' w w' → Refuses (alloc_table b c h) r ((b' ≡ b) × (w' ≡ w))

abbrev pub FreeRefuses : Type 0
FreeRefuses = (b : List ℕ) (c h w r : ℕ) (b' : List ℕ) → FreeEnds (pool_on b c (free h w)) r b' → Refuses (free_table b c h w) r (b' ≡ b)

abbrev pub TrimRefuses : Type 0
TrimRefuses = (b : List ℕ) (c h r : ℕ) (b' : List ℕ) (w w' : ℕ) → BlockEnds (pool_on b c (trim h)) r b' w w' → Refuses (trim_table b c h) r ((b' ≡ b) × (w' ≡ w))

-- ---- the calls that only read refuse nothing; a table says when they have an answer
abbrev pub book_table : List ℕ → List Row
book_table b =
    let n = get b (arena size) in
    (1, bad_length n) ∷ (2, too_short n b) ∷ []

abbrev pub query_early : List ℕ → ℕ → List Row
query_early b c = book_table b ++ (4, no_class class_count c) ∷ []

-- what vigbuso_free asks of the block
abbrev pub granted_table : List ℕ → ℕ → ℕ → List Row
granted_table b c w =
    query_early b c ++ (9, not (of_kind (shape_of (pool_id c)).kind w)) ∷ (10, not (granted_in (get b (arena size)) b c w)) ∷ (13, strays b (format_is ∷ [])) ∷ []

abbrev pub stocked_table : List ℕ → ℕ → List Row
stocked_table b c = query_early b c ++ (13, strays b (format_is ∷ stock_reads c)) ∷ []

pub record GrantedAnswer (b : List ℕ) (c w r : ℕ) : Type 0 where
  pub plain : r ≤ 1
  pub yes : (r ≡ 1) ↔ (first_number (granted_table b c w) ≡ 0)

pub record StockedAnswer (b : List ℕ) (c r : ℕ) : Type 0 where
  pub counted : first_number (stocked_table b c) ≡ 0 → r ≡ count_in b c
  pub none : (first_number (stocked_table b c) ≡ 0 → ⊥) → r ≡ 0

-- `vigbuso_class_of`: the number of the class that has the block's page, below FRONTIER, by OWNER, be it the heap's or the pool's; 76 where none has it, and on a book
-- that 1, 2 or 13 refuses, by FORMAT and FRONTIER
abbrev pub class_table : List ℕ → List Row
class_table b = book_table b ++ (13, strays b (format_is ∷ frontier_fits ∷ [])) ∷ []

pub record OwnedBy (b : List ℕ) (w c : ℕ) : Type 0 where
  pub used : page_at w < get b (arena frontier)
  pub owner : (get b (page owner (page_at w)) ≡ suc c) ⊎ (get b (page owner (page_at w)) ≡ suc (pool_id c))

pub record ClassAnswer (b : List ℕ) (w r : ℕ) : Type 0 where
  pub low : r ≤ class_count
  pub granted : (c : ℕ) → first_number (class_table b) ≡ 0 → first_number (granted_table b c w) ≡ 0 → r ≡ c
  pub owned : (c : ℕ) → first_number (class_table b) ≡ 0 → c < class_count → (r ≡ c) ↔ OwnedBy b w c
  pub none : (first_number (class_table b) ≡ 0 → ⊥) → r ≡ class_count

pub record PoolDemand1 : Type 0 where
  pub alloc : AllocRefuses
  pub free : FreeRefuses
  pub trim : TrimRefuses
  pub granted : (b : List ℕ) (c w r : ℕ) → r ≡ digit (granted_on b c w) → GrantedAnswer b c w r
  pub stocked : (b : List ℕ) (c r : ℕ) → r ≡ stocked_on b c → StockedAnswer b c r
  pub class : (b : List ℕ) (w r : ℕ) → r ≡ class_on b w → ClassAnswer b w r
