-- An alloc, a free and a trim on the words, from number 9 on: the answer and the book, for any book. n is the arena's length, c the
-- class's number, h the host word, w a block's. The heap knows the class by its id (`pool_id`). A refusal leaves the book.
--     alloc_on    the stock's top, or one take into a list of the pool's own: the last of its blocks is granted, the others are the stock
--     granted_in  a word of the class's kind is a block granted there
--     free_on     numbers 9, 10 and 13; then into the stock, or back to the heap where that holds enough
--     trim_on     the stock's top goes back to the heap
use Rattle.std.specs.Prelude.{ℕ, ◌+◌, ◌-◌, ◌*◌, Bool, cond, not, ◌&&◌, List, [], ◌∷◌, ◌≡◌, eqb, ltb, leb, get_or}
use Rattle.std.proofs.Math.ListN as ListN
use Rattle.words.specs.Word.{none_kind, block_word, granule_of}
use Rattle.classes.specs.Shape.{shape_of, pool_id}
use Rattle.fields.specs.Ranges.{format_valid}
use Rattle.model.specs.Release.{of_kind}
use Rattle.calls.specs.Out.{out_at}
use Rattle.calls.specs.Take.{Took, take_call}
use Rattle.calls.specs.Release.{Released, release_blocks}
use Rattle.pool.specs.Stock.{count_max, stock_most, blank}
use Rattle.pool.specs.Pool.{PoolRequest, alloc, free, trim, PoolAnswer, refused, granted, trimmed, no_block, freed, answered}
use Rattle.poolcalls.specs.Stock.{count_in, entry_in, block_in, stocked, put_count, pushed, filled}

pub record PoolReply : Type 0 where
  pub answer : PoolAnswer
  pub book : List ℕ

abbrev pub pool_reply : PoolAnswer → List ℕ → PoolReply
pool_reply a b = record { answer = a; book = b }

-- ---- as numbers: what a call returns, and its out-parameter, which a refusal leaves; none is the word of kind 0
abbrev pub code_of : PoolAnswer → ℕ
code_of (refused n) = n
code_of (granted w) = 0
code_of (trimmed w) = 0
code_of no_block = 0
code_of freed = 0
code_of (answered a) = 0

abbrev pub block_out : PoolAnswer → ℕ → ℕ
block_out (refused n) old = old
block_out (granted w) old = w
block_out (trimmed w) old = w
block_out no_block old = block_word none_kind 0
block_out freed old = old
block_out (answered a) old = old

-- ---- number 13: FORMAT, COUNT, and the ENTRY on top, whose block lies in the arena whole
unfoldable pub count_valid : List ℕ → ℕ → Bool
count_valid b c = leb (count_in b c) count_max

unfoldable pub top_valid : ℕ → List ℕ → ℕ → Bool
top_valid n b c = format_valid b && (count_valid b c && leb (entry_in b c (count_in b c - 1) + (shape_of (pool_id c)).block) (4096 * n))

-- how many blocks there are; 0 for a word out of its range
unfoldable pub stocked_in : List ℕ → ℕ → ℕ
stocked_in b c = cond (format_valid b && count_valid b c) (count_in b c) 0

-- ---- alloc
-- m blocks of a list
unfoldable pub bring_on : List ℕ → ℕ → ℕ → List ℕ → PoolReply
bring_on b c m l = cond (eqb m 0) (pool_reply no_block b) (pool_reply (granted (get_or l (m - 1) 0)) (filled b c (ListN.take (m - 1) l)))

unfoldable pub took_on : ℕ → Took → PoolReply
took_on c t = cond (eqb t.code 0) (bring_on t.book c t.count t.list) (pool_reply (refused t.code) t.book)

unfoldable pub alloc_on : ℕ → List ℕ → ℕ → ℕ → PoolReply
alloc_on n b c h =
    cond (eqb (count_in b c) 0) (took_on c (take_call n b (pool_id c) (shape_of (pool_id c)) h blank))
    (cond (top_valid n b c) (pool_reply (granted (block_in b c (count_in b c - 1))) (put_count b c (count_in b c - 1))) (pool_reply (refused 13) b))

-- ---- free
-- a release of one block: `a` and the book `b` where it is not refused
unfoldable pub released_on : PoolAnswer → List ℕ → Released → PoolReply
released_on a b z = cond (eqb z.code 0) (pool_reply a b) (pool_reply (refused z.code) z.book)

-- a granted block: into the stock, or back to the heap, which tests FORMAT itself
unfoldable pub freed_on : ℕ → List ℕ → ℕ → ℕ → ℕ → PoolReply
freed_on n b c h w =
    cond (ltb (count_in b c) (stock_most c)) (cond (format_valid b) (pool_reply freed (pushed b c (granule_of w))) (pool_reply (refused 13) b))
    (cond (count_valid b c)
    (let z = release_blocks n b (pool_id c) (shape_of (pool_id c)) h (w ∷ []) in released_on freed z.book z)
    (pool_reply (refused 13) b))

-- the heap has the block out in the class, which therefore lies in the arena; and it is not in stock
abbrev pub granted_in : ℕ → List ℕ → ℕ → ℕ → Bool
granted_in n b c w = out_at n b (pool_id c) (shape_of (pool_id c)) w && not (stocked b c (granule_of w))

unfoldable pub free_on : ℕ → List ℕ → ℕ → ℕ → ℕ → PoolReply
free_on n b c h w =
    cond (not (of_kind (shape_of (pool_id c)).kind w)) (pool_reply (refused 9) b)
    (cond (not (granted_in n b c w)) (pool_reply (refused 10) b)
    (freed_on n b c h w))

-- ---- trim
unfoldable pub trim_on : ℕ → List ℕ → ℕ → ℕ → PoolReply
trim_on n b c h =
    cond (eqb (count_in b c) 0) (cond (format_valid b) (pool_reply no_block b) (pool_reply (refused 13) b))
    (cond (top_valid n b c)
    (let w = block_in b c (count_in b c - 1) in
    let z = release_blocks n b (pool_id c) (shape_of (pool_id c)) h (w ∷ []) in
    released_on (trimmed w) (put_count z.book c (count_in b c - 1)) z)
    (pool_reply (refused 13) b))

abbrev pub request_on : ℕ → List ℕ → ℕ → PoolRequest → PoolReply
request_on n b c (alloc h) = alloc_on n b c h
request_on n b c (free h w) = free_on n b c h w
request_on n b c (trim h) = trim_on n b c h

-- ---- that the code ended so
-- an alloc's or a trim's; w is the out-parameter before the call, w' after it
pub record BlockEnds (s : PoolReply) (r : ℕ) (b : List ℕ) (w w' : ℕ) : Type 0 where
  pub code : r ≡ code_of s.answer
  pub book : b ≡ s.book
  pub block : w' ≡ block_out s.answer w

-- a free's
pub record FreeEnds (s : PoolReply) (r : ℕ) (b : List ℕ) : Type 0 where
  pub code : r ≡ code_of s.answer
  pub book : b ≡ s.book
